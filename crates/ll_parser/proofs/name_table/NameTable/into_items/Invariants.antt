use Rattle.std.proofs.Common.{◌≡◌, ◌++◌}
use Rattle.ll_parser.proofs.name_table.NameTable.into_items.Given as goal

abbrev pub invariant-loop-key : goal.invariant-loop-key
invariant-loop-key l = l.items ++ l.key-iterator ≡ l.fn.self
