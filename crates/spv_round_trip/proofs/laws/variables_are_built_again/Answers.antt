use Rattle.spv_round_trip.proofs.FunctionsBuilt.{variables-are-built}
use Rattle.spv_round_trip.proofs.laws.variables_are_built_again.Goals as goal

pub returns : goal.returns
returns c = variables-are-built
