use Rattle.ll_memory_ops.proofs.OperationsRead.{operation_read}
use Rattle.ll_memory_ops.proofs.operations.read_memory_operation.Goals as goal

pub returns-in_ok-operation-in-Some : goal.returns-in_ok-operation-in-Some
returns-in_ok-operation-in-Some c = operation_read _ _ _ _ _ _ _ c.in-Some.ensures c.in_ok-operation-in-Some.ensures
