use Rattle.spv_round_trip.proofs.PartnerWritable.{partner-built}
use Rattle.spv_round_trip.proofs.laws.partner_is_built_again.Goals as goal

pub returns : goal.returns
returns c = partner-built
