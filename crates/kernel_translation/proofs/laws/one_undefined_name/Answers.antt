use Rattle.kernel_translation.proofs.Sources.{one-undefined-name}
use Rattle.kernel_translation.proofs.laws.one_undefined_name.Goals as goal

pub returns : goal.returns
returns c = one-undefined-name
