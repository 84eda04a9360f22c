use Rattle.graph_walk.proofs.LevelsLemmas.{not-reached}
use Rattle.graph_walk.proofs.laws.higher_is_not_reached.Goals as goal

pub returns : goal.returns
returns c = not-reached
