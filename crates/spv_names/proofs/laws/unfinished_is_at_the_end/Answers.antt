use Rattle.spv_names.proofs.FunctionFronts.{unfinished-end}
use Rattle.spv_names.proofs.laws.unfinished_is_at_the_end.Goals as goal

pub returns : goal.returns
returns c = unfinished-end
