use Rattle.spv_canon.proofs.CanonicalForms.{canonical-own}
use Rattle.spv_canon.proofs.canonical_is_its_own.Goals as goal

pub returns : goal.returns
returns c = canonical-own
