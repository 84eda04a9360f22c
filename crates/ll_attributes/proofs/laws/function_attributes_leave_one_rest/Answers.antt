use Rattle.ll_attributes.proofs.FunctionFacts.{function_attributes_one}
use Rattle.ll_attributes.proofs.laws.function_attributes_leave_one_rest.Goals as goal

pub returns : goal.returns
returns c = function_attributes_one
