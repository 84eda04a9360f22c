use Rattle.std.proofs.Common.{refl}
use Rattle.spv_module.proofs.laws.first_kernel_is_spelled.Goals as goal

pub returns : goal.returns
returns c = refl
