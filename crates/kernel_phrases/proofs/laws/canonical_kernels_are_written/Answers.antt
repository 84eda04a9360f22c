use Rattle.kernel_phrases.proofs.KernelsPrinted.{kernels-printed}
use Rattle.kernel_phrases.proofs.laws.canonical_kernels_are_written.Goals as goal

pub returns : goal.returns
returns c = kernels-printed
