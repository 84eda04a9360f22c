use Rattle.spv_build.proofs.FunctionsBack.{functions-are-back}
use Rattle.spv_build.proofs.laws.functions_are_read_back.Goals as goal

pub returns : goal.returns
returns c = functions-are-back
