use Rattle.ll_attributes.proofs.SkipsRead.{some_attachment}
use Rattle.ll_attributes.proofs.attachments.skip_attachment.Goals as goal

pub returns-in_ok-_node-in-Some : goal.returns-in_ok-_node-in-Some
returns-in_ok-_node-in-Some c =
    some_attachment _ _ _ _ _ c.in-Some.ensures (c.is_of_kind.ensures.0 c.if-is_of_kind.true) c.in_ok-_node-in-Some.ensures
