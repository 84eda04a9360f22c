use Rattle.ll_memory_ops.proofs.ExactOperations.{exact_memory_operation}
use Rattle.ll_memory_ops.proofs.PartsDerived.{of_part}
use Rattle.ll_memory_ops.proofs.laws.refused_memory_operations_derive_nothing.Goals as goal

pub returns : goal.returns
returns c = λ tokens refusal stops names o rest d. exact_memory_operation.none tokens rest refusal stops (of_part names o tokens rest d)
