use Rattle.std.proofs.Common.{◌≡◌, map, take}
use Rattle.kernel_tree.specs.Canonical.{inst_aligned, inst_numbered}
use Rattle.ll_canon.proofs.numbered.insts.Given as goal

abbrev pub invariant-loop-inst : goal.invariant-loop-inst
invariant-loop-inst l = l.made ≡ map (inst_numbered l.places) (map inst_aligned (take l.inst-index l.insts))
