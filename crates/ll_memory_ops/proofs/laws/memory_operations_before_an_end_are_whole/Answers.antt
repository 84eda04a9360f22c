use Rattle.ll_operands.proofs.WholeFacts.{whole_at_end}
use Rattle.ll_memory_ops.proofs.laws.memory_operations_before_an_end_are_whole.Goals as goal

pub returns : goal.returns
returns c = λ names o tokens rest is d end. (is, (d, whole_at_end o rest end))
