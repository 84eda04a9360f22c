use Rattle.ll_attributes.proofs.AttributeFacts.{attributes_one}
use Rattle.ll_attributes.proofs.laws.attributes_leave_one_rest.Goals as goal

pub returns : goal.returns
returns c = attributes_one
