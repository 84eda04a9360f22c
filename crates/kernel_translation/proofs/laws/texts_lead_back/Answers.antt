use Rattle.kernel_translation.proofs.Back.{text-and-back}
use Rattle.kernel_translation.proofs.laws.texts_lead_back.Goals as goal

pub returns : goal.returns
returns c = text-and-back
