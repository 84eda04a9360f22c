use Rattle.ll_attributes.proofs.LoopFacts.{SoFar}
use Rattle.ll_modules.proofs.CollectedRead.{Kept}
use Rattle.ll_modules.proofs.parsing.read_items.Given as goal

abbrev pub invariant-loop-left : goal.invariant-loop-left
invariant-loop-left l = SoFar (Kept l.fn.names l.names l.kept) l.tokens l.left

abbrev pub decreases-loop-left : goal.decreases-loop-left
decreases-loop-left l = l.left
