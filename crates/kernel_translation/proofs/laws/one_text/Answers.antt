use Rattle.kernel_translation.proofs.Back.{one-text}
use Rattle.kernel_translation.proofs.laws.one_text.Goals as goal

pub returns : goal.returns
returns c = one-text
