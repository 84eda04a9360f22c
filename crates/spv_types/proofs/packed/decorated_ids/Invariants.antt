use Rattle.std.proofs.Common.{◌≡◌, ℕ, nat_eq, take}
use Rattle.std.specs.HashSet.{contains}
use Rattle.spv_types.specs.Packed.{is_decorated}
use Rattle.spv_types.proofs.packed.decorated_ids.Given as goal

abbrev pub invariant-loop-inst : goal.invariant-loop-inst
invariant-loop-inst l = (id : ℕ) → contains nat_eq l.ids id ≡ is_decorated (take l.inst-index l.insts) id
