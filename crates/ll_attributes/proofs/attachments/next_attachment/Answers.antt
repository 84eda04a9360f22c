use Rattle.std.proofs.Common.{ap, drop, sym, ◌∙◌}
use Rattle.ll_attributes.proofs.SkipsRead.{attachment_read}
use Rattle.ll_attributes.proofs.attachments.next_attachment.Goals as goal

pub returns-in_ok-name-in-Some : goal.returns-in_ok-name-in-Some
returns-in_ok-name-in-Some c =
    attachment_read _ _ _ _ _ _ c.in-Some.ensures (c.is_of_kind.ensures.0 c.if-is_of_kind.true)
    (sym (c.in_ok-name-in-Some.ensures ∙ c.behind_sign.ensures ∙ ap (drop 1) c.as_bytes.ensures.value))
    c.in_ok-node-in-Some.ensures
