use Rattle.ll_attributes.proofs.SkipsRead.{behind_comma_read}
use Rattle.ll_attributes.proofs.attachments.skip_behind_comma.Goals as goal

pub returns-in_ok-skip_attachment-in-Ok : goal.returns-in_ok-skip_attachment-in-Ok
returns-in_ok-skip_attachment-in-Ok c = behind_comma_read _ _ _ c.in-Ok.ensures.read c.in_ok-skip_attachment-in-Ok.ensures
