use Rattle.spv_round_trip.proofs.Whole.{modules-are-built}
use Rattle.spv_round_trip.proofs.laws.modules_are_built_again.Goals as goal

pub returns : goal.returns
returns c = modules-are-built
