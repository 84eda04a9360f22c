use Rattle.ll_attributes.proofs.SkipsRead.{AttachmentsSoFar}
use Rattle.ll_attributes.proofs.attachments.read_attachments.Given as goal

abbrev pub invariant-loop-attachments : goal.invariant-loop-attachments
invariant-loop-attachments l = AttachmentsSoFar l.tokens l.attachments l.left

abbrev pub decreases-loop-attachments : goal.decreases-loop-attachments
decreases-loop-attachments l = l.left
