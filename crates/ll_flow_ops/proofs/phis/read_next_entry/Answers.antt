use Rattle.std.proofs.lemmas.Result.{err_from_is_err_and}
use Rattle.ll_flow_ops.proofs.PhisRead.{next_read, next_refused}
use Rattle.ll_flow_ops.proofs.phis.read_next_entry.Goals as goal

pub returns-in_err-entry-in-Some : goal.returns-in_err-entry-in-Some
returns-in_err-entry-in-Some c =
    let p = err_from_is_err_and c.from_residual.result c.from_residual.ensures.1 in
    rw p.1 (next_refused _ _ _ _ _ p.2 c.in-Some.ensures.0 c.in-Some.ensures.1 c.in_err-entry-in-Some.ensures)

pub returns-in_ok-entry-in-Some : goal.returns-in_ok-entry-in-Some
returns-in_ok-entry-in-Some c = next_read _ _ _ _ _ _ _ c.in-Some.ensures.0 c.in_ok-entry-in-Some.ensures
