use Rattle.spv_round_trip.proofs.Whole.{building-gives_back}
use Rattle.spv_round_trip.proofs.laws.building_gives_back.Goals as goal

pub returns : goal.returns
returns c = building-gives_back
