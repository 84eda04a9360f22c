use Rattle.ocl_names.proofs.ComeBackLemmas.{come_back}
use Rattle.ocl_names.proofs.laws.scopes_come_back.Goals as goal

pub returns : goal.returns
returns c = come_back
