use Rattle.ocl_names.proofs.WorkItemLemmas.{numbers_and_names}
use Rattle.ocl_names.proofs.laws.numbers_and_names_agree.Goals as goal

pub returns : goal.returns
returns c = numbers_and_names
