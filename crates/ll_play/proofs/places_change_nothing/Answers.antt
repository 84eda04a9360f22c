use Rattle.ll_play.proofs.Places.{places-change-nothing}
use Rattle.ll_play.proofs.places_change_nothing.Goals as goal

pub returns : goal.returns
returns c = places-change-nothing
