use Rattle.spv_names.proofs.FunctionLists.{functions-listed}
use Rattle.spv_names.proofs.laws.functions_are_listed.Goals as goal

pub returns : goal.returns
returns c = functions-listed
