use Rattle.ll_attributes.proofs.AttributeFacts.{attributes_none}
use Rattle.ll_attributes.proofs.laws.refused_attributes_derive_nothing.Goals as goal

pub returns : goal.returns
returns c = attributes_none
