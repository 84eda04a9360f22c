use Rattle.kernel_runs.proofs.Joins.{turn-around}
use Rattle.kernel_runs.proofs.same_runs_turn_around.Goals as goal

pub returns : goal.returns
returns c = turn-around
