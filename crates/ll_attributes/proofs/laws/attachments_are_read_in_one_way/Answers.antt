use Rattle.ll_attributes.proofs.AttachmentFacts.{attachments_one, attachments_same, skipped_one}
use Rattle.ll_attributes.proofs.laws.attachments_are_read_in_one_way.Goals as goal

pub returns : goal.returns
returns c = record {
  kept = λ xs ys tokens a b d e. (attachments_same xs ys tokens a b d e, attachments_one xs ys tokens a b d e);
  skipped = skipped_one;
}
