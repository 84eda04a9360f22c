use Rattle.spv_round_trip.proofs.KeptBack.{nothing-dropped}
use Rattle.spv_round_trip.proofs.laws.nothing_is_dropped.Goals as goal

pub returns : goal.returns
returns c = nothing-dropped
