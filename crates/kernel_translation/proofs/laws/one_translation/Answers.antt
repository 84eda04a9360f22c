use Rattle.kernel_translation.proofs.Sources.{one-translation}
use Rattle.kernel_translation.proofs.laws.one_translation.Goals as goal

pub returns : goal.returns
returns c = one-translation
