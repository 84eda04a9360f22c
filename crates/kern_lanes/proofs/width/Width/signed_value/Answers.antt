use Rattle.std.proofs.Common.{arith}
use Rattle.std.proofs.lemmas.Int.{ints}
use Rattle.kern_lanes.proofs.SignedLemmas.{signed_value-low, signed_value-high, value_count_le}
use Rattle.kern_lanes.proofs.width.Width.signed_value.Goals as goal

pub returns-then-a-least_negative-clause-value : goal.returns-then-a-least_negative-clause-value
returns-then-a-least_negative-clause-value c =
    rw (signed_value-low c.args.self c.args.a (omega arith)) (omega (arith, ints))

pub returns-else-a-least_negative-clause-value : goal.returns-else-a-least_negative-clause-value
returns-else-a-least_negative-clause-value c =
    rw (signed_value-high c.args.self c.args.a (omega arith)) (omega (arith, ints, value_count_le c.args.self))
