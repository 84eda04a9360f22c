use Rattle.std.proofs.lemmas.Result.{err_from_is_err_and}
use Rattle.kernel_text.proofs.ParamFacts.{typed_fails_in_pointer, typed_fails_in_int, pointer_param_read, int_param_read}
use Rattle.kernel_text.proofs.params.typed_name.Goals as goal

pub returns-in_err-name-in-Ok : goal.returns-in_err-name-in-Ok
returns-in_err-name-in-Ok c =
    let p = err_from_is_err_and c.from_residual.result c.from_residual.ensures.1 in
    rw p.1 (typed_fails_in_pointer _ _ _ _ p.2 c.in-Ok.ensures c.in_err-name-in-Ok.ensures)

pub returns-in_err-name-in-Err : goal.returns-in_err-name-in-Err
returns-in_err-name-in-Err c =
    let p = err_from_is_err_and c.from_residual-in_err-name-in-Err.result c.from_residual-in_err-name-in-Err.ensures.1 in
    rw p.1 (typed_fails_in_int _ _ _ _ p.2 c.in-Err.ensures c.in_err-name-in-Err.ensures)

pub returns-in_ok-name-in-Ok : goal.returns-in_ok-name-in-Ok
returns-in_ok-name-in-Ok c =
    pointer_param_read _ _ _ _ _ _ c.in-Ok.ensures c.in_ok-name-in-Ok.ensures

pub returns-in_ok-name-in-Err : goal.returns-in_ok-name-in-Err
returns-in_ok-name-in-Err c =
    int_param_read _ _ _ _ _ c.in_ok-name-in-Err.ensures
