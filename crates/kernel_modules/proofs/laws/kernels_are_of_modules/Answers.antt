use Rattle.kernel_modules.proofs.ModulesOfKernels.{module_of_kernel}
use Rattle.kernel_modules.proofs.laws.kernels_are_of_modules.Goals as goal

pub returns : goal.returns
returns c = module_of_kernel
