use Rattle.std.proofs.lemmas.Result.{err_from_is_err_and}
use Rattle.kernel_text.proofs.ParamFacts.{next_param_fails, next_param_read}
use Rattle.kernel_text.proofs.params.next_param.Goals as goal

pub returns-in_err-param-in-Ok : goal.returns-in_err-param-in-Ok
returns-in_err-param-in-Ok c =
    let p = err_from_is_err_and c.from_residual.result c.from_residual.ensures.1 in
    rw p.1 (next_param_fails _ _ _ _ p.2 c.in-Ok.ensures c.in_err-param-in-Ok.ensures)

pub returns-in_ok-param-in-Ok : goal.returns-in_ok-param-in-Ok
returns-in_ok-param-in-Ok c =
    next_param_read _ _ _ _ _ _ c.in-Ok.ensures c.in_ok-param-in-Ok.ensures
