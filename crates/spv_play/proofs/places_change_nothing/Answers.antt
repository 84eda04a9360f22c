use Rattle.spv_play.proofs.Places.{places-change-nothing}
use Rattle.spv_play.proofs.places_change_nothing.Goals as goal

pub returns : goal.returns
returns c = places-change-nothing
