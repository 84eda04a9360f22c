use Rattle.std.proofs.Common.{refl}
use Rattle.kern_acts.proofs.effects_are_known.Goals as goal

pub returns : goal.returns
returns c = record {
  lanes_wrap = refl;
  first_trap = refl;
  other_first_trap = refl;
  later_trap = refl;
  unset_left = refl;
  unset_right = refl;
  unset_pointer = refl;
  unset_value = refl;
  unset_target = refl;
  takes_two = refl;
  lacks_one = refl;
  takes_last = refl;
  stores = refl;
  leaves = refl;
  ends = refl;
  leads_back = refl;
}
