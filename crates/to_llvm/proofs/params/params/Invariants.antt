use Rattle.std.proofs.Common.{◌≡◌, take}
use Rattle.to_llvm.specs.Guesses.{params_in}
use Rattle.to_llvm.proofs.params.params.Given as goal

abbrev pub invariant-loop-inst : goal.invariant-loop-inst
invariant-loop-inst l = l.params.items ≡ params_in l.ids (take l.inst-index l.insts)
