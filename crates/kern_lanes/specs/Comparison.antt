-- What the comparisons of two lanes give
use Rattle.std.specs.Prelude.{ℕ, Bool, not, ◌==◌, nat_lt, nat_le, int_lt, int_le}
use Rattle.kern_lanes.specs.declared.width.Width.{Width}
use Rattle.kern_lanes.specs.declared.comparison.Pred.{Pred}
use Rattle.kern_lanes.specs.declared.comparison.Pred.TheVariants.{Eq, Ne, Ugt, Uge, Ult, Ule, Sgt, Sge, Slt, Sle}
use Rattle.kern_lanes.specs.Widths.{signed_value}

-- whether the predicate holds of the two lanes, of their signed values for the last four
abbrev pub comparison : Pred → Width → ℕ → ℕ → Bool
comparison Eq w a b = a == b
comparison Ne w a b = not (a == b)
comparison Ugt w a b = nat_lt b a
comparison Uge w a b = nat_le b a
comparison Ult w a b = nat_lt a b
comparison Ule w a b = nat_le a b
comparison Sgt w a b = int_lt (signed_value w b) (signed_value w a)
comparison Sge w a b = int_le (signed_value w b) (signed_value w a)
comparison Slt w a b = int_lt (signed_value w a) (signed_value w b)
comparison Sle w a b = int_le (signed_value w a) (signed_value w b)
