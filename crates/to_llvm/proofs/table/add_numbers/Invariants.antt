use Rattle.std.proofs.Common.{◌≡◌, ◌++◌, map}
use Rattle.std.specs.List.{range_with_len}
use Rattle.kernel_tree.specs.Canonical.{number_entry}
use Rattle.to_llvm.proofs.table.add_numbers.Given as goal

abbrev pub invariant-loop-number : goal.invariant-loop-number
invariant-loop-number l = l.names ≡ l.initial.names ++ map number_entry (range_with_len 0 l.number)
