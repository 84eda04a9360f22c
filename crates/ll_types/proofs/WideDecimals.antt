-- The number that digits spell, with one digit more, and whether it is in a range.
use Rattle.std.proofs.Common.{◌≡◌, ℕ, ◌+◌, ◌*◌, ◌-◌, ◌<◌, ◌^◌, min, List, [], ◌∷◌, ◌++◌, take, length, get_or, sym, ap, ◌∙◌, arith}
use Rattle.std.proofs.lemmas.List.{take_more}
use Rattle.ll_parser.specs.Spellings.{decimal_value}
use Rattle.ll_parser.proofs.Decimals.{decimal_push}

-- a turn of the loop, in numbers
capped : (exact sum next digit : ℕ) → sum ≡ min exact (2 ^ 128 - 1) → next ≡ min (10 * sum + (digit - 48)) (2 ^ 128 - 1) → next ≡ min (10 * exact + (digit - 48)) (2 ^ 128 - 1)
capped exact sum next digit e f = omega arith

pub wide_push : (digits : List ℕ) (i sum next digit : ℕ) → i < length digits → digit ≡ get_or digits i 0 → sum ≡ min (decimal_value (take i digits)) (2 ^ 128 - 1) → next ≡ min (10 * sum + (digit - 48)) (2 ^ 128 - 1) → next ≡ min (decimal_value (take (i + 1) digits)) (2 ^ 128 - 1)
wide_push digits i sum next digit lt is e f =
    capped (decimal_value (take i digits)) sum next digit e f
    ∙ ap (λ n. min n (2 ^ 128 - 1)) (sym (decimal_push 0 (take i digits) digit))
    ∙ ap (λ ds. min (decimal_value ds) (2 ^ 128 - 1)) (ap (λ d. take i digits ++ d ∷ []) is ∙ sym (take_more digits i 0 lt))
