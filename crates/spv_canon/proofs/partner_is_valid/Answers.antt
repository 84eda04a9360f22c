use Rattle.spv_canon.proofs.ValidPartner.{partner-valid}
use Rattle.spv_canon.proofs.partner_is_valid.Goals as goal

pub returns : goal.returns
returns c = partner-valid
