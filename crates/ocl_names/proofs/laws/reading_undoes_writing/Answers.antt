use Rattle.ocl_names.proofs.SyncscopeLemmas.{undoes_writing}
use Rattle.ocl_names.proofs.laws.reading_undoes_writing.Goals as goal

pub returns : goal.returns
returns c = undoes_writing
