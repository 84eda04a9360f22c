use Rattle.std.proofs.Common.{refl}
use Rattle.std.proofs.lemmas.Result.{err_from_is_err_and}
use Rattle.ll_flow_ops.proofs.SwitchesRead.{case_read, case_refused, no_case}
use Rattle.ll_flow_ops.proofs.switches.next_case.Goals as goal

pub returns-in_err-case-in-Err : goal.returns-in_err-case-in-Err
returns-in_err-case-in-Err c =
    let p = err_from_is_err_and c.from_residual.result c.from_residual.ensures.1 in
    rw p.1 (case_refused _ _ _ p.2 c.in-Err.ensures.read c.in_err-case-in-Err.ensures)

pub returns-in_ok-case-in-Err : goal.returns-in_ok-case-in-Err
returns-in_ok-case-in-Err c = case_read _ _ _ _ _ _ c.case_of.ensures c.in_ok-case-in-Err.ensures

pub returns-in-Ok : goal.returns-in-Ok
returns-in-Ok c = (refl, no_case _ _ c.in-Ok.ensures.read)
