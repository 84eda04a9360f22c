use Rattle.std.proofs.Common.{◌≡◌, ℕ, nat_eq, take}
use Rattle.std.specs.Prelude.{◌||◌}
use Rattle.std.specs.HashSet.{contains}
use Rattle.spv_types.specs.Packed.{is_among}
use Rattle.spv_types.proofs.packed.note_all.Given as goal

abbrev pub invariant-loop-id : goal.invariant-loop-id
invariant-loop-id l = (id : ℕ) → contains nat_eq l.ids id ≡ (contains nat_eq l.initial.ids id || is_among id (take l.id-index l.more))
