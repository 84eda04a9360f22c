use Rattle.std.proofs.Common.{◌≡◌, ◌≤◌, length, take}
use Rattle.std.specs.Prelude.{flat_map}
use Rattle.kernel_tree.specs.Names.{defined_by}
use Rattle.to_llvm.proofs.table.result_count.Given as goal

abbrev pub invariant-loop-inst : goal.invariant-loop-inst
invariant-loop-inst l = (l.count ≡ length (flat_map defined_by (take l.inst-index l.insts))) × (l.count ≤ l.inst-index)
