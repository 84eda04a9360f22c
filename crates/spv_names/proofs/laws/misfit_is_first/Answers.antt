use Rattle.spv_names.proofs.FunctionFronts.{misfit-first}
use Rattle.spv_names.proofs.laws.misfit_is_first.Goals as goal

pub returns : goal.returns
returns c = misfit-first
