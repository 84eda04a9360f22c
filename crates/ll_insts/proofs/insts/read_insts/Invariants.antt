use Rattle.ll_attributes.proofs.LoopFacts.{SoFar}
use Rattle.ll_insts.proofs.InstsRead.{Plain}
use Rattle.ll_insts.proofs.insts.read_insts.Given as goal

abbrev pub invariant-loop-names : goal.invariant-loop-names
invariant-loop-names l = SoFar (Plain l.fn.next l.next l.fn.names l.names l.insts) l.tokens l.left

abbrev pub decreases-loop-names : goal.decreases-loop-names
decreases-loop-names l = l.left
