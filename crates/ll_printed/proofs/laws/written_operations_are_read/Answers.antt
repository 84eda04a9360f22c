use Rattle.ll_printed.proofs.OpsWritten.{op-written}
use Rattle.ll_printed.proofs.laws.written_operations_are_read.Goals as goal

pub returns : goal.returns
returns c = λ names o tokens rest is. (op-written names o tokens rest is).reads
