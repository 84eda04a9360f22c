use Rattle.std.proofs.Common.{◌≡◌, ◌≤◌, ℕ, nat_eq, map, take, get_or, length}
use Rattle.inst_walk.specs.Renaming.{renamed_name}
use Rattle.ll_tree.proofs.inst_set.rename_numbers.Given as goal

abbrev pub invariant-loop-i : goal.invariant-loop-i
invariant-loop-i l = (take l.i l.numbers.items ≡ map (renamed_name nat_eq l.names) (take l.i l.initial.numbers.items)) × ((k : ℕ) (d : ℕ) → l.i ≤ k → get_or l.numbers.items k d ≡ get_or l.initial.numbers.items k d) × (length l.numbers.items ≡ length l.initial.numbers.items)
