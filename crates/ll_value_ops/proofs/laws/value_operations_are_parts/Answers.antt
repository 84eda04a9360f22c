use Rattle.ll_value_ops.proofs.PartsDerived.{of_part}
use Rattle.ll_value_ops.proofs.laws.value_operations_are_parts.Goals as goal

pub returns : goal.returns
returns c = of_part
