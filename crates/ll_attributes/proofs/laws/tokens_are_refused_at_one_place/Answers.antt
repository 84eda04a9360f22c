use Rattle.ll_attributes.proofs.OneRefusal.{attachments_once, function_attributes_once, group_once, node_once, skipped_once}
use Rattle.ll_attributes.proofs.laws.tokens_are_refused_at_one_place.Goals as goal

pub returns : goal.returns
returns c = record {
  node = node_once;
  group = group_once;
  function_attributes = function_attributes_once;
  attachments = attachments_once;
  skipped = skipped_once;
}
