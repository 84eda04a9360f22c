use Rattle.std.proofs.Common.{◌≡◌, ◌++◌, flat_map, take}
use Rattle.kernel_tree.specs.Names.{defined_by}
use Rattle.ll_canon.proofs.definitions.add_results.Given as goal

abbrev pub invariant-loop-inst : goal.invariant-loop-inst
invariant-loop-inst l = l.defined.items ≡ l.initial.defined.items ++ flat_map defined_by (take l.inst-index l.insts)
