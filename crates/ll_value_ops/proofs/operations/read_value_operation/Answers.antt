use Rattle.ll_value_ops.proofs.OperationsRead.{operation_read}
use Rattle.ll_value_ops.proofs.operations.read_value_operation.Goals as goal

pub returns-in_ok-operation-in-Some : goal.returns-in_ok-operation-in-Some
returns-in_ok-operation-in-Some c = operation_read _ _ _ _ _ _ _ c.in-Some.ensures c.in_ok-operation-in-Some.ensures
