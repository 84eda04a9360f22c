use Rattle.spv_canon.proofs.OneForm.{one-form}
use Rattle.spv_canon.proofs.pairing_relates_one.Goals as goal

pub returns : goal.returns
returns c = one-form
