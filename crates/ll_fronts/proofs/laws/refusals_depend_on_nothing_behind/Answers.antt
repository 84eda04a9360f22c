use Rattle.ll_fronts.proofs.Refusals.{nothing_behind}
use Rattle.ll_fronts.proofs.laws.refusals_depend_on_nothing_behind.Goals as goal

pub returns : goal.returns
returns c = nothing_behind
