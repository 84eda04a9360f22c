use Rattle.ll_fronts.proofs.Refusals.{stay}
use Rattle.ll_fronts.proofs.laws.refusals_stay.Goals as goal

pub returns : goal.returns
returns c = stay
