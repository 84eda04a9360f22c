use Rattle.std.proofs.Common.{◌≡◌, ℕ, nat_eq, take}
use Rattle.std.specs.Prelude.{◌||◌}
use Rattle.std.specs.HashSet.{contains}
use Rattle.spv_types.specs.Packed.{is_decorated, is_passed_on}
use Rattle.spv_types.proofs.packed.packed_ids.Given as goal

abbrev pub invariant-loop-inst : goal.invariant-loop-inst
invariant-loop-inst l = (id : ℕ) → contains nat_eq l.packed id ≡ (is_decorated l.insts id || is_passed_on (is_decorated l.insts) (take l.inst-index l.insts) id)
