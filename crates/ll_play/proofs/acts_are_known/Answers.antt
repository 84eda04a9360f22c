use Rattle.std.proofs.Common.{refl}
use Rattle.kern_lanes.specs.Widths.{lane}
use Rattle.ll_play.proofs.acts_are_known.Goals as goal

pub returns : goal.returns
unfolding lane
returns c = record {
  with_constant = refl;
  with_unset = refl;
  of_bits = refl;
  of_odd_width = refl;
  loads = refl;
  loads_aligned = refl;
  loads_pointer = refl;
  loads_bit = refl;
  loads_elsewhere = refl;
  stores = refl;
  stores_volatile = refl;
  returns = refl;
  jumps = refl;
  unreachable = refl;
}
