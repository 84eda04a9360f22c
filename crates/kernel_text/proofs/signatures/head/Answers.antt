use Rattle.std.proofs.lemmas.Result.{err_from_is_err_and}
use Rattle.kernel_text.proofs.ParamFacts.{with_nothing}
use Rattle.kernel_text.proofs.Sequences.{joined}
use Rattle.kernel_text.proofs.SignatureFacts.{head_none, head_none_behind_lines}
use Rattle.kernel_text.proofs.signatures.head.Goals as goal

pub returns-in_err-rest-in-Ok : goal.returns-in_err-rest-in-Ok
returns-in_err-rest-in-Ok c =
    let p = err_from_is_err_and c.from_residual.result c.from_residual.ensures.1 in
    rw p.1 (head_none_behind_lines _ _ c.in-Ok.ensures c.in_err-rest-in-Ok.ensures.none)

pub returns-in_err-rest-in-Err : goal.returns-in_err-rest-in-Err
returns-in_err-rest-in-Err c =
    let p = err_from_is_err_and c.from_residual-in_err-rest-in-Err.result c.from_residual-in_err-rest-in-Err.ensures.1 in
    rw p.1 (head_none _ c.in-Err.ensures.none c.in_err-rest-in-Err.ensures.none)

pub returns-in_ok-rest-in-Ok : goal.returns-in_ok-rest-in-Ok
returns-in_ok-rest-in-Ok c =
    joined _ _ _ _ _ c.in-Ok.ensures c.in_ok-rest-in-Ok.ensures

pub returns-in_ok-rest-in-Err : goal.returns-in_ok-rest-in-Err
returns-in_ok-rest-in-Err c =
    with_nothing _ _ _ c.in_ok-rest-in-Err.ensures
