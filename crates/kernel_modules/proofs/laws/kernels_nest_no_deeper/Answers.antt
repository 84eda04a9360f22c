use Rattle.kernel_modules.proofs.NestedPhrases.{nests_no_deeper}
use Rattle.kernel_modules.proofs.laws.kernels_nest_no_deeper.Goals as goal

pub returns : goal.returns
returns c = nests_no_deeper
