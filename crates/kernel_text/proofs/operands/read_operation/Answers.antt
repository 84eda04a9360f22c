use Rattle.std.proofs.lemmas.Result.{err_from_is_err_and}
use Rattle.kernel_text.proofs.OperandFacts.{operation_fails_in_sum, operation_fails_in_load, sum_read}
use Rattle.kernel_text.proofs.operands.read_operation.Goals as goal

pub returns-in_err-left-in-Ok : goal.returns-in_err-left-in-Ok
returns-in_err-left-in-Ok c =
    let p = err_from_is_err_and c.from_residual.result c.from_residual.ensures.1 in
    rw p.1 (operation_fails_in_sum _ _ _ _ p.2 c.in-Ok.ensures c.in_err-left-in-Ok.ensures)

pub returns-in_err-access-in-Err : goal.returns-in_err-access-in-Err
returns-in_err-access-in-Err c =
    let p = err_from_is_err_and c.from_residual-in_err-access-in-Err.result c.from_residual-in_err-access-in-Err.ensures.1 in
    rw p.1 (operation_fails_in_load _ _ _ _ p.2 c.in-Err.ensures c.in_err-access-in-Err.ensures)

pub returns-in_ok-left-in-Ok : goal.returns-in_ok-left-in-Ok
returns-in_ok-left-in-Ok c =
    sum_read _ _ _ _ _ _ _ c.in-Ok.ensures c.in_ok-left-in-Ok.ensures
