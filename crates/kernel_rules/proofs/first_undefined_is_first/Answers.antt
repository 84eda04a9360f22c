use Rattle.kernel_rules.proofs.Rising.{undefined-first}
use Rattle.kernel_rules.proofs.first_undefined_is_first.Goals as goal

pub returns : goal.returns
returns c = undefined-first
