use Rattle.spv_round_trip.proofs.TypesBack.{types-are-built}
use Rattle.spv_round_trip.proofs.laws.types_are_built_again.Goals as goal

pub returns : goal.returns
returns c = types-are-built
