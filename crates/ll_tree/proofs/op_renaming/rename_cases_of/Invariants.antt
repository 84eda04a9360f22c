use Rattle.std.proofs.Common.{◌≡◌, ◌≤◌, ℕ, nat_eq, map, take, get_or}
use Rattle.inst_walk.specs.Renaming.{renamed_name}
use Rattle.ll_tree.specs.Ops.{case_renamed}
use Rattle.ll_tree.proofs.op_renaming.rename_cases_of.Given as goal

abbrev pub invariant-loop-i : goal.invariant-loop-i
invariant-loop-i l = (take l.i l.cases ≡ map (case_renamed (renamed_name nat_eq l.names)) (take l.i l.initial.cases)) × ((k : ℕ) (d : _) → l.i ≤ k → get_or l.cases k d ≡ get_or l.initial.cases k d)
