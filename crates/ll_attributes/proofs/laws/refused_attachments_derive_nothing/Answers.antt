use Rattle.ll_attributes.proofs.AttachmentFacts.{attachments_none, skipped_none}
use Rattle.ll_attributes.proofs.laws.refused_attachments_derive_nothing.Goals as goal

pub returns : goal.returns
returns c = record { kept = attachments_none; skipped = skipped_none }
