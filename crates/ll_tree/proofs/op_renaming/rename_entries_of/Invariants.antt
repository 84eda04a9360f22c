use Rattle.std.proofs.Common.{◌≡◌, ◌≤◌, ℕ, nat_eq, map, take, get_or}
use Rattle.inst_walk.specs.Renaming.{renamed_name}
use Rattle.ll_tree.specs.Ops.{entry_renamed}
use Rattle.ll_tree.proofs.op_renaming.rename_entries_of.Given as goal

abbrev pub invariant-loop-i : goal.invariant-loop-i
invariant-loop-i l = (take l.i l.entries ≡ map (entry_renamed (renamed_name nat_eq l.names)) (take l.i l.initial.entries)) × ((k : ℕ) (d : _) → l.i ≤ k → get_or l.entries k d ≡ get_or l.initial.entries k d)
