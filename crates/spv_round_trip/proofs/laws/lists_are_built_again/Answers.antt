use Rattle.spv_round_trip.proofs.RestBack.{lists-are-back}
use Rattle.spv_round_trip.proofs.laws.lists_are_built_again.Goals as goal

pub returns : goal.returns
returns c = lists-are-back
