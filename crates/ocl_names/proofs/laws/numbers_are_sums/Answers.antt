use Rattle.ocl_names.proofs.OrderLemmas.{are_sums}
use Rattle.ocl_names.proofs.laws.numbers_are_sums.Goals as goal

pub returns : goal.returns
returns c = are_sums
