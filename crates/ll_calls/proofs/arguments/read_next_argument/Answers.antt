use Rattle.std.proofs.lemmas.Result.{err_from_is_err_and}
use Rattle.ll_calls.proofs.ArgumentsRead.{next_read, next_refused}
use Rattle.ll_calls.proofs.arguments.read_next_argument.Goals as goal

pub returns-in_err-argument-in-Ok : goal.returns-in_err-argument-in-Ok
returns-in_err-argument-in-Ok c =
    let p = err_from_is_err_and c.from_residual.result c.from_residual.ensures.1 in
    rw p.1 (next_refused _ _ _ _ p.2 c.in-Ok.ensures.read c.in_err-argument-in-Ok.ensures)

pub returns-in_ok-argument-in-Ok : goal.returns-in_ok-argument-in-Ok
returns-in_ok-argument-in-Ok c = next_read _ _ _ _ _ _ c.in-Ok.ensures.read c.in_ok-argument-in-Ok.ensures
