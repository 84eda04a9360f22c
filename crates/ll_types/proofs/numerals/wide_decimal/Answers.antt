use Rattle.std.proofs.Common.{refl}
use Rattle.ll_types.proofs.WideDecimals.{wide_push}
use Rattle.ll_types.proofs.numerals.wide_decimal.Goals as goal

pub loop-digit-preserved : goal.loop-digit-preserved
loop-digit-preserved c = wide_push c.args.digits.now c.loop-digit.digit-index _ _ _ c.loop-digit-test.true refl c.loop-digit.invariant c.with_digit-sum.ensures
