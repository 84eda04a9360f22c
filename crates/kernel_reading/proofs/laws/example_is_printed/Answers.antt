use Rattle.std.proofs.Common.{refl}
use Rattle.kernel_text.specs.Examples.{example_kernel}
use Rattle.ll_canon.proofs.NumberedAgain.{canonical-again}
use Rattle.kernel_reading.proofs.ReadAgain.{example-printed}
use Rattle.kernel_reading.proofs.laws.example_is_printed.Goals as goal

pub returns : goal.returns
returns c = example-printed (canonical-again example_kernel refl refl)
