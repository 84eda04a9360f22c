use Rattle.std.proofs.Common.{◌≡◌, drop}
use Rattle.to_llvm.specs.Guesses.{first_operands}
use Rattle.to_llvm.proofs.operands.first_operands.Given as goal

abbrev pub invariant-loop-inst : goal.invariant-loop-inst
invariant-loop-inst l = first_operands l.opcode l.insts ≡ first_operands l.opcode (drop l.inst-index l.insts)
