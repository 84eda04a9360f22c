-- What ends the token before it: a blank, a comment, punctuation, or the end of the text.
use Rattle.std.specs.Prelude.{ℕ, Bool, true, ◌||◌, ◌==◌, List, [], ◌∷◌}
use Rattle.ll_tokens.specs.declared.bytes.ByteClass.TheVariants.{Blank, Punctuation}
use Rattle.ll_tokens.specs.Forms.{in_class}

-- 59 is `;`
abbrev pub is_break : ℕ → Bool
is_break b = b == 59 || (in_class Blank b || in_class Punctuation b)

abbrev pub begins_with_break : List ℕ → Bool
begins_with_break [] = true
begins_with_break (b ∷ bs) = is_break b
