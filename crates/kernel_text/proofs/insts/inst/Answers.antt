use Rattle.std.proofs.lemmas.Result.{err_from_is_err_and}
use Rattle.kernel_text.proofs.InstFacts.{inst_fails_in_store, inst_fails_in_definition, store_read, definition_read}
use Rattle.kernel_text.proofs.insts.inst.Goals as goal

pub returns-in_err-operands-in-Ok : goal.returns-in_err-operands-in-Ok
returns-in_err-operands-in-Ok c =
    let p = err_from_is_err_and c.from_residual.result c.from_residual.ensures.1 in
    rw p.1 (inst_fails_in_store _ _ _ _ p.2 c.in-Ok.ensures c.in_err-operands-in-Ok.ensures)

pub returns-in_err-name-in-Err : goal.returns-in_err-name-in-Err
returns-in_err-name-in-Err c =
    let p = err_from_is_err_and c.from_residual-in_err-name-in-Err.result c.from_residual-in_err-name-in-Err.ensures.1 in
    rw p.1 (inst_fails_in_definition _ _ _ _ p.2 c.in-Err.ensures c.in_err-name-in-Err.ensures)

pub returns-in_ok-operands-in-Ok : goal.returns-in_ok-operands-in-Ok
returns-in_ok-operands-in-Ok c =
    rw c.store.ensures (store_read _ _ _ _ _ _ c.in-Ok.ensures c.in_ok-operands-in-Ok.ensures)

pub returns-in_ok-name-in-Err : goal.returns-in_ok-name-in-Err
returns-in_ok-name-in-Err c =
    rw c.defining.ensures (definition_read _ _ _ _ _ _ c.in_ok-name-in-Err.ensures)
