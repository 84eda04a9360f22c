use Rattle.ll_attributes.proofs.FunctionFacts.{function_attributes_right, function_attributes_whole}
use Rattle.ll_attributes.proofs.laws.function_attributes_are_read_whole.Goals as goal

pub returns : goal.returns
returns c = record { whole = function_attributes_whole; right = function_attributes_right }
