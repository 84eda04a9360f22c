use Rattle.ll_attributes.proofs.FunctionFacts.{function_attributes_none}
use Rattle.ll_attributes.proofs.laws.refused_function_attributes_derive_nothing.Goals as goal

pub returns : goal.returns
returns c = function_attributes_none
