use Rattle.kernel_text.proofs.OneKernel.{one-kernel}
use Rattle.kernel_text.proofs.laws.one_kernel.Goals as goal

pub returns : goal.returns
returns c = one-kernel
