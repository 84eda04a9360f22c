use Rattle.spv_round_trip.proofs.Texts.{texts-are-back}
use Rattle.spv_round_trip.proofs.laws.texts_are_read_back.Goals as goal

pub returns : goal.returns
returns c = texts-are-back
