use Rattle.kernel_reading.proofs.ReadAgain.{one-printed}
use Rattle.kernel_reading.proofs.laws.printed_texts_are_of_one_kernel.Goals as goal

pub returns : goal.returns
returns c = one-printed
