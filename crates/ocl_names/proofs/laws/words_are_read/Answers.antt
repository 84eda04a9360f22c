use Rattle.ocl_names.proofs.SyncscopeLemmas.{words_read}
use Rattle.ocl_names.proofs.laws.words_are_read.Goals as goal

pub returns : goal.returns
returns c = words_read
