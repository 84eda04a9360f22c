use Rattle.ll_flow_ops.proofs.OperationsRead.{unreachable_read}
use Rattle.ll_flow_ops.proofs.operations.read_behind.Goals as goal

pub returns-in-Unreachable : goal.returns-in-Unreachable
returns-in-Unreachable c = unreachable_read _ _ _ c.in-Unreachable.is
