use Rattle.kernel_translation.proofs.Back.{and-back}
use Rattle.kernel_translation.proofs.laws.translations_lead_back.Goals as goal

pub returns : goal.returns
returns c = and-back
