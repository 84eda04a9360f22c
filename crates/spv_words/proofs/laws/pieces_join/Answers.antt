use Rattle.spv_words.proofs.FeedLaws.{pieces-join}
use Rattle.spv_words.proofs.laws.pieces_join.Goals as goal

pub returns : goal.returns
returns c = pieces-join
