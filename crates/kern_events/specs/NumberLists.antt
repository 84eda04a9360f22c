-- Lists of numbers: one or more decimal numbers below 2 ^ 64, with one comma between
use Rattle.std.specs.Prelude.{◌≡◌, ℕ, ◌+◌, ◌-◌, ◌*◌, ◌^◌, ◌<◌, ◌≤◌, ◌==◌, ◌&&◌, nat_lt, nat_le, if◌then◌else◌, List, [], ◌∷◌, ◌++◌, length, take, fold, Option, Some, None, IsSome, unwrap_or, option_map, option_and_then}
use Rattle.kern_events.specs.declared.numbers.NumbersError.{NumbersError}
use Rattle.kern_events.specs.declared.numbers.NumbersError.TheVariants.{NoMemory, Number}

-- what the beginning of a list says: the numbers that a comma ends, and the number of the digits behind the last comma
pub record Reading : Type 0 where
  pub done : List ℕ
  pub begun : Option ℕ

-- a digit more behind the digits of a number; none where the byte is no digit, or the number is too great
abbrev pub with_digit : Option ℕ → ℕ → Option ℕ
with_digit begun byte =
    if nat_le 48 byte && nat_le byte 57
    then (if nat_lt (unwrap_or begun 0 * 10 + (byte - 48)) (2 ^ 64) then Some (unwrap_or begun 0 * 10 + (byte - 48)) else None)
    else None

-- a comma ends a number that has digits
abbrev pub with_comma : List ℕ → Option ℕ → Option Reading
with_comma done None = None
with_comma done (Some number) = Some (record { done = done ++ number ∷ []; begun = None })

-- one byte more of a list
abbrev pub with_byte : Reading → ℕ → Option Reading
with_byte reading byte =
    if byte == 44 then with_comma reading.done reading.begun
    else option_map (λ number. record { done = reading.done; begun = Some number }) (with_digit reading.begun byte)

-- what a text says that begins a list of numbers; None where it begins none
unfoldable pub reading_of : List ℕ → Option Reading
reading_of text =
    fold (λ reading byte. option_and_then (λ before. with_byte before byte) reading) (Some (record { done = []; begun = None })) text

-- the numbers of a list whose last one has digits
abbrev pub ended : Reading → Option (List ℕ)
ended reading = option_map (λ number. reading.done ++ number ∷ []) reading.begun

-- the numbers that a text lists; None where it is no such list
abbrev pub numbers_in : List ℕ → Option (List ℕ)
numbers_in text = option_and_then ended (reading_of text)

-- the beginning of this length begins a list, and no longer one does
pub record IsLongestBeginning (text : List ℕ) (place : ℕ) : Type 0 where
  pub within : place ≤ length text
  pub begins : IsSome (reading_of (take place text))
  pub longest : (longer : ℕ) → place < longer → longer ≤ length text → reading_of (take longer text) ≡ None

-- what an error says of the text
abbrev pub IsFaultOf : List ℕ → NumbersError → Type 0
IsFaultOf text NoMemory = Unit {0}
IsFaultOf text (Number place) = (numbers_in text ≡ None) × IsLongestBeginning text place
