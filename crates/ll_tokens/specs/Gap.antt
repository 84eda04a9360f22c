-- What lies between tokens.
use Rattle.std.specs.Prelude.{◌≡◌, ◌≢◌, ℕ, Bool, false, ◌||◌, ◌==◌, ◌⊎◌, List, [], ◌∷◌, ◌++◌, All, IsTrue}
use Rattle.std.specs.List.{flat_map}
use Rattle.ll_tokens.specs.declared.bytes.ByteClass.TheVariants.{Blank}
use Rattle.ll_tokens.specs.Forms.{in_class}

-- bytes of one line: 10 is the line feed
abbrev pub IsInLine : List ℕ → Type 0
IsInLine bytes = All (λ b. b ≢ 10) bytes

-- a blank, or a comment with the line feed that ends it: 59 is `;`
pub data Piece : Type 0 where
  OneBlank : (b : ℕ) → IsTrue (in_class Blank b) → Piece
  Comment : (words : List ℕ) → IsInLine words → Piece

abbrev pub bytes_of : Piece → List ℕ
bytes_of (OneBlank b blank) = b ∷ []
bytes_of (Comment words in_line) = 59 ∷ words ++ 10 ∷ []

-- neither a blank nor a comment begins here
abbrev pub begins_gap : List ℕ → Bool
begins_gap [] = false
begins_gap (b ∷ bs) = b == 59 || in_class Blank b

-- `text` is blanks and comments, and then `rest`, which begins with neither
pub record IsBehindGap (text rest : List ℕ) : Type 0 where
  pub pieces : List Piece
  pub gap : text ≡ flat_map bytes_of pieces ++ rest
  pub stops : begins_gap rest ≡ false

-- `text` is blanks and comments alone, of which the last is not ended by a line feed
pub record EndsInComment (text : List ℕ) : Type 0 where
  pub pieces : List Piece
  pub words : List ℕ
  pub in_line : IsInLine words
  pub gap : text ≡ flat_map bytes_of pieces ++ 59 ∷ words

-- `rest` is what is left of `text` behind the blanks and comments at its front
abbrev pub IsLeftOf : List ℕ → List ℕ → Type 0
IsLeftOf text rest = IsBehindGap text rest ⊎ (EndsInComment text × (rest ≡ []))
