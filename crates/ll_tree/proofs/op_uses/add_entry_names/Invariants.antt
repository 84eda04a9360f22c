use Rattle.std.proofs.Common.{◌≡◌, ◌++◌, take}
use Rattle.ll_tree.specs.Ops.{bare_entries}
use Rattle.ll_tree.specs.Values.{names_in}
use Rattle.ll_tree.proofs.op_uses.add_entry_names.Given as goal

abbrev pub invariant-loop-entry : goal.invariant-loop-entry
invariant-loop-entry l = l.names.items ≡ l.initial.names.items ++ names_in (bare_entries (take l.entry-index l.entries))
