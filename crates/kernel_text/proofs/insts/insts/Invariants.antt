use Rattle.kernel_text.specs.Parts.{inst_here}
use Rattle.kernel_text.proofs.ManyFacts.{ReadSoFar}
use Rattle.kernel_text.proofs.insts.insts.Given as goal

abbrev pub invariant-loop-insts : goal.invariant-loop-insts
invariant-loop-insts l = ReadSoFar inst_here l.initial.names l.names l.tokens l.insts l.left

abbrev pub decreases-loop-insts : goal.decreases-loop-insts
decreases-loop-insts l = l.left
