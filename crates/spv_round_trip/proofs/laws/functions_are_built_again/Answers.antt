use Rattle.spv_round_trip.proofs.FunctionsBuilt.{functions-are-built}
use Rattle.spv_round_trip.proofs.laws.functions_are_built_again.Goals as goal

pub returns : goal.returns
returns c = functions-are-built
