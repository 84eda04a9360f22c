use Rattle.spv_round_trip.proofs.EntriesBack.{entries-are-built}
use Rattle.spv_round_trip.proofs.laws.entries_are_built_again.Goals as goal

pub returns : goal.returns
returns c = entries-are-built
