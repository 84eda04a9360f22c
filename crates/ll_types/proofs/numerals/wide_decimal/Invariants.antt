use Rattle.std.proofs.Common.{◌≡◌, ◌-◌, ◌^◌, min, take}
use Rattle.ll_parser.specs.Spellings.{decimal_value}
use Rattle.ll_types.proofs.numerals.wide_decimal.Given as goal

abbrev pub invariant-loop-digit : goal.invariant-loop-digit
invariant-loop-digit l = l.sum ≡ min (decimal_value (take l.digit-index l.digits)) (2 ^ 128 - 1)
