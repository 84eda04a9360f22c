use Rattle.kernel_reading.proofs.PrintedKernels.{printed}
use Rattle.kernel_reading.proofs.laws.printed_kernels_are_read.Goals as goal

pub returns : goal.returns
returns c = printed
