use Rattle.std.proofs.Common.{refl}
use Rattle.std.proofs.lemmas.Result.{err_from_is_err_and}
use Rattle.ll_attributes.proofs.SkipsRead.{attachments_read, attachments_stop, fewer_attachments, more_attachments}
use Rattle.ll_attributes.proofs.attachments.read_attachments.Goals as goal

pub returns-in_err-attachment : goal.returns-in_err-attachment
returns-in_err-attachment c =
    let p = err_from_is_err_and c.from_residual.result c.from_residual.ensures.1 in
    rw p.1 (attachments_stop _ _ _ _ _ _ p.2 c.loop-attachments.invariant c.last.ensures c.in_err-attachment.ensures)

pub loop-attachments-smaller : goal.loop-attachments-smaller
loop-attachments-smaller c =
    let one = rw c.in-Some.is at c.in_ok-attachment.ensures in
    fewer_attachments _ _ _ _ _ _ c.loop-attachments.invariant c.last.ensures one

pub loop-attachments-preserved : goal.loop-attachments-preserved
loop-attachments-preserved c =
    let one = rw c.in-Some.is at c.in_ok-attachment.ensures in
    more_attachments _ _ _ _ _ _ _ _ c.loop-attachments.invariant c.last.ensures one c.in_ok-push.ensures.ok refl

pub returns : goal.returns
returns c =
    let none = rw c.in_default.is at c.in_ok-attachment.ensures in
    attachments_read _ _ _ _ _ c.loop-attachments.invariant c.last.ensures c.last-2.ensures none
