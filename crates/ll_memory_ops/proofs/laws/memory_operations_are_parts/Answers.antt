use Rattle.ll_memory_ops.proofs.PartsDerived.{of_part}
use Rattle.ll_memory_ops.proofs.laws.memory_operations_are_parts.Goals as goal

pub returns : goal.returns
returns c = of_part
