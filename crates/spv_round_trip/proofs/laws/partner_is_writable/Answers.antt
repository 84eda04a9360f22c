use Rattle.spv_round_trip.proofs.PartnerWritable.{partner-writable}
use Rattle.spv_round_trip.proofs.laws.partner_is_writable.Goals as goal

pub returns : goal.returns
returns c = partner-writable
