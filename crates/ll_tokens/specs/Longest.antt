-- The longest front of a text that is of some kind.
use Rattle.std.specs.Prelude.{ℕ, nat_lt, if◌then◌else◌, List, Option, Some, None, MatchOption}
use Rattle.ll_tokens.specs.declared.kinds.TokenKind.{TokenKind}
use Rattle.ll_tokens.specs.declared.longest.Front.{Front}
use Rattle.ll_tokens.specs.Reach.{reach}
use Rattle.ll_tokens.specs.Tokens.{form_of, BeginsNoToken, IsLongestFront}

-- the longer of a front that was found and the one of a kind, which has this length if it is there
abbrev pub keep_longer : Option Front → TokenKind → Option ℕ → Option Front
keep_longer best kind None = best
keep_longer None kind (Some n) = Some (record { kind = kind; len = n })
keep_longer (Some front) kind (Some n) =
    if nat_lt front.len n then Some (record { kind = kind; len = n }) else Some front

abbrev pub better : List ℕ → Option Front → TokenKind → Option Front
better text best kind = keep_longer best kind (reach (form_of kind) text)

-- what a search for the longest front of `text` tells
abbrev pub IsLongestOf : List ℕ → Option Front → Type 0
IsLongestOf text found =
    MatchOption found (BeginsNoToken text) (λ front. IsLongestFront front.kind front.len text)
