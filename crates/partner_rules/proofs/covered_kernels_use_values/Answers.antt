use Rattle.partner_rules.proofs.ValueNames.{covered-values}
use Rattle.partner_rules.proofs.covered_kernels_use_values.Goals as goal

pub returns : goal.returns
returns c = covered-values
