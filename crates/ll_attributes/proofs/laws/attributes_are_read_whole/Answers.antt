use Rattle.ll_attributes.proofs.AttributeFacts.{attributes_right, attributes_whole}
use Rattle.ll_attributes.proofs.laws.attributes_are_read_whole.Goals as goal

pub returns : goal.returns
returns c = record { whole = attributes_whole; right = attributes_right }
