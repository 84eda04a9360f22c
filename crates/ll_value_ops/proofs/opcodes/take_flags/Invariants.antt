use Rattle.ll_value_ops.proofs.FlagsRead.{FlagsSoFar}
use Rattle.ll_value_ops.proofs.opcodes.take_flags.Given as goal

abbrev pub invariant-loop-flag : goal.invariant-loop-flag
invariant-loop-flag l = FlagsSoFar l.tokens l.flags l.left

abbrev pub decreases-loop-flag : goal.decreases-loop-flag
decreases-loop-flag l = l.left
