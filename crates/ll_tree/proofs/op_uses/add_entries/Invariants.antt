use Rattle.std.proofs.Common.{◌≡◌, ℕ, ◌++◌, map, flat_map, take}
use Rattle.ll_tree.specs.Ops.{entry_takes}
use Rattle.ll_tree.proofs.op_uses.add_entries.Given as goal

abbrev pub invariant-loop-entry : goal.invariant-loop-entry
invariant-loop-entry l = (l.values.items ≡ l.initial.values.items ++ map (λ (p : ℕ × ℕ). p.0) (flat_map entry_takes (take l.entry-index l.entries))) × (l.parents.items ≡ l.initial.parents.items ++ map (λ (p : ℕ × ℕ). p.1) (flat_map entry_takes (take l.entry-index l.entries)))
