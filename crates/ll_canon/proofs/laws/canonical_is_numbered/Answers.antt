use Rattle.ll_canon.proofs.NumberedForms.{canonical-numbered, covered-distinct}
use Rattle.ll_canon.proofs.laws.canonical_is_numbered.Goals as goal

pub returns : goal.returns
returns c = λ kernel covered. canonical-numbered kernel (covered-distinct kernel covered)
