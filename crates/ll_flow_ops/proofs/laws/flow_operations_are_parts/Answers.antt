use Rattle.ll_flow_ops.proofs.PartsDerived.{of_part}
use Rattle.ll_flow_ops.proofs.laws.flow_operations_are_parts.Goals as goal

pub returns : goal.returns
returns c = of_part
