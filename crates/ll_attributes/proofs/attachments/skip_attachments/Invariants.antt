use Rattle.ll_attributes.proofs.SkipsRead.{SkippedSoFar}
use Rattle.ll_attributes.proofs.attachments.skip_attachments.Given as goal

abbrev pub invariant-loop-behind : goal.invariant-loop-behind
invariant-loop-behind l = SkippedSoFar l.tokens l.left

abbrev pub decreases-loop-behind : goal.decreases-loop-behind
decreases-loop-behind l = l.left
