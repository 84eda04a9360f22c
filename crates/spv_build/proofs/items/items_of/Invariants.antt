use Rattle.std.proofs.Common.{◌≡◌, take}
use Rattle.spv_build.specs.Items.{items_of}
use Rattle.spv_build.proofs.items.items_of.Given as goal

abbrev pub invariant-loop-inst : goal.invariant-loop-inst
invariant-loop-inst g l = l.items.items ≡ items_of g.T.FromInst.said (take l.inst-index l.insts)
