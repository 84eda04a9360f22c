use Rattle.ll_memory_ops.proofs.ExactOperations.{exact_memory_operation}
use Rattle.ll_memory_ops.proofs.PartsDerived.{of_part}
use Rattle.ll_memory_ops.proofs.laws.memory_operations_leave_one_rest.Goals as goal

pub returns : goal.returns
returns c = λ names other o p tokens a b d e. exact_memory_operation.one tokens a b (of_part names o tokens a d) (of_part other p tokens b e)
