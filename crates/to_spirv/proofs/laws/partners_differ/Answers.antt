use Rattle.to_spirv.proofs.DifferLemmas.{kernels-same}
use Rattle.to_spirv.proofs.laws.partners_differ.Goals as goal

pub returns : goal.returns
returns c = kernels-same
