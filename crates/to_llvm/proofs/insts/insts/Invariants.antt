use Rattle.std.proofs.Common.{◌≡◌, take}
use Rattle.to_llvm.specs.Guesses.{insts_in}
use Rattle.to_llvm.proofs.insts.insts.Given as goal

abbrev pub invariant-loop-inst : goal.invariant-loop-inst
invariant-loop-inst l = l.made.items ≡ insts_in l.ids (take l.inst-index l.insts)
