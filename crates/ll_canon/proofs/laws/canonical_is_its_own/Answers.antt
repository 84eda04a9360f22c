use Rattle.ll_canon.proofs.NumberedAgain.{canonical-again}
use Rattle.ll_canon.proofs.laws.canonical_is_its_own.Goals as goal

pub returns : goal.returns
returns c = canonical-again
