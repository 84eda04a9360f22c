use Rattle.ll_value_ops.proofs.ExactOperations.{exact_value_operation}
use Rattle.ll_value_ops.proofs.PartsDerived.{of_part}
use Rattle.ll_value_ops.proofs.laws.refused_value_operations_derive_nothing.Goals as goal

pub returns : goal.returns
returns c = λ tokens refusal stops names o rest d. exact_value_operation.none tokens rest refusal stops (of_part names o tokens rest d)
