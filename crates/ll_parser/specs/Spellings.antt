-- What numbers, names and texts tokens spell (LLVM 14, Identifiers; Simple Constants).
use Rattle.std.specs.Prelude.{◌≡◌, ℕ, ◌+◌, ◌*◌, ◌-◌, ◌^◌, ◌<◌, ◌==◌, ◌&&◌, ℤ, pos, neg_ℤ, if◌then◌else◌, List, [], ◌∷◌, length, take, drop, Some, slice_get}
use Rattle.std.specs.List.{list_all}
use Rattle.std.specs.Char.{is_ascii_digit, is_ascii_hexdigit, digit_value}
use Rattle.ll_tree.specs.declared.name.NameKind.{NameKind}
use Rattle.ll_tree.specs.declared.name.NameText.{NameText}
use Rattle.ll_tree.specs.declared.name.Spelling.{Spelling}
use Rattle.ll_tree.specs.declared.name.Spelling.TheVariants.{Number, Text}

-- the number that decimal digits spell, the highest first
abbrev pub decimal_from : ℕ → List ℕ → ℕ
decimal_from sum [] = sum
decimal_from sum (digit ∷ digits) = decimal_from (10 * sum + (digit - 48)) digits

abbrev pub decimal_value : List ℕ → ℕ
decimal_value = decimal_from 0

-- the number that digits spell, with a `-`, 45, before them or not
abbrev pub integer_value : List ℕ → ℤ
integer_value [] = pos 0
integer_value (byte ∷ bytes) = if byte == 45 then neg_ℤ (pos (decimal_value bytes)) else pos (decimal_value (byte ∷ bytes))

-- what a text between quotes stands for. `\\` is a backslash, 92, and a backslash with two hexadecimal
-- digits the byte that they spell; any other one stands for itself.
unfoldable pub unescaped : List ℕ → List ℕ
unescaped [] = []
unescaped (a ∷ []) = a ∷ []
unescaped (a ∷ b ∷ []) = if (a == 92) && (b == 92) then 92 ∷ [] else a ∷ b ∷ []
unescaped (a ∷ b ∷ c ∷ bytes) =
    if (a == 92) && (b == 92) then 92 ∷ unescaped (c ∷ bytes)
    else (if (a == 92) && (is_ascii_hexdigit b && is_ascii_hexdigit c) then (16 * digit_value b + digit_value c) ∷ unescaped bytes
    else a ∷ unescaped (b ∷ c ∷ bytes))

-- what a token with quotes at both ends stands for
abbrev pub between_quotes : List ℕ → List ℕ
between_quotes text = unescaped (drop 1 (take (length text - 1) text))

-- the spelling of a name, behind its `%` or `@`: digits, a name without quotes, or one in quotes, 34
abbrev pub spelling_of : List ℕ → Spelling
spelling_of [] = Text []
spelling_of (byte ∷ bytes) =
    if byte == 34 then Text (between_quotes (byte ∷ bytes))
    else (if list_all is_ascii_digit (byte ∷ bytes) then Number (decimal_value (byte ∷ bytes)) else Text (byte ∷ bytes))

-- the digits of a name are below 2^31
abbrev pub IsInReach : Spelling → Type 0
IsInReach (Number number) = number < 2 ^ 31
IsInReach (Text bytes) = Unit {0}

-- the table gives the number to this name
abbrev pub Spells : List NameText → NameKind → List ℕ → ℕ → Type 0
Spells names kind text number =
    IsInReach (spelling_of text) × (slice_get names number ≡ Some (record { kind = kind; spelling = spelling_of text }))
