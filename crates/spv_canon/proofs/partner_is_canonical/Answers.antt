use Rattle.spv_canon.proofs.CanonicalForms.{partner-canonical}
use Rattle.spv_canon.proofs.partner_is_canonical.Goals as goal

pub returns : goal.returns
returns c = partner-canonical
