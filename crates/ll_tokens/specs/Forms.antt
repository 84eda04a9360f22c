-- Forms of text, as data, and the set of texts that each form has.
use Rattle.std.specs.Prelude.{ℕ, Bool, true, false, not, ◌&&◌, ◌||◌, ◌==◌, if◌then◌else◌, List, [], ◌∷◌, codes}
use Rattle.std.specs.List.{list_any, list_all}
use Rattle.std.specs.Char.{is_ascii_digit, is_ascii_alphabetic, is_ascii_alphanumeric}
use Rattle.ll_tokens.specs.declared.bytes.ByteClass.{ByteClass}
use Rattle.ll_tokens.specs.declared.bytes.ByteClass.TheVariants.{Blank, Digit, Name, NameStart, Punctuation, Unquoted, Word, WordStart}

abbrev pub is_one_of : List ℕ → ℕ → Bool
is_one_of bytes b = list_any (λ c. b == c) bytes

-- whether a byte is of a class; a blank is a space, a tab, a carriage return or a line feed
abbrev pub in_class : ByteClass → ℕ → Bool
in_class Blank b = is_one_of (32 ∷ 9 ∷ 13 ∷ 10 ∷ []) b
in_class Digit b = is_ascii_digit b
in_class NameStart b = is_ascii_alphabetic b || is_one_of (codes "-$._") b
in_class Name b = is_ascii_alphanumeric b || is_one_of (codes "-$._") b
in_class WordStart b = is_ascii_alphabetic b || b == 95
in_class Word b = is_ascii_alphanumeric b || b == 95
in_class Unquoted b = not (b == 34)
in_class Punctuation b = is_one_of (codes "(){}[]<>,=*") b

pub data Form : Type 0 where
  -- the empty text
  End : Form
  -- bytes of a class, or none
  Run : ByteClass → Form
  -- one byte of a class, then a form
  One : ByteClass → Form → Form
  -- this byte, then a form
  Byte : ℕ → Form → Form
  -- bytes of a class, or none, up to the first time that this byte stands, that byte, then a form
  Until : ByteClass → ℕ → Form → Form
  -- either form
  Either : Form → Form → Form

-- whether a text is bytes of the class c, the byte x, and a text that `after` has
abbrev pub has_until : ByteClass → ℕ → (List ℕ → Bool) → List ℕ → Bool
has_until c x after [] = false
has_until c x after (b ∷ bs) = if b == x then after bs else in_class c b && has_until c x after bs

-- whether a whole text has a form
unfoldable pub has_form : Form → List ℕ → Bool
has_form End [] = true
has_form End (b ∷ bs) = false
has_form (Run c) bs = list_all (in_class c) bs
has_form (One c f) [] = false
has_form (One c f) (b ∷ bs) = in_class c b && has_form f bs
has_form (Byte x f) [] = false
has_form (Byte x f) (b ∷ bs) = b == x && has_form f bs
has_form (Until c x f) bs = has_until c x (has_form f) bs
has_form (Either f g) bs = has_form f bs || has_form g bs
