use Rattle.std.proofs.lemmas.Result.{err_from_is_err_and}
use Rattle.ll_flow_ops.proofs.PhisRead.{entries_read, entry_told, more_told}
use Rattle.ll_flow_ops.proofs.phis.read_entries.Goals as goal

pub returns-in_err-first : goal.returns-in_err-first
returns-in_err-first c =
    let p = err_from_is_err_and c.from_residual.result c.from_residual.ensures.1 in
    rw p.1 (entry_told _ _ _ _ p.2 c.in_err-first.ensures)

pub returns-in_err-entries : goal.returns-in_err-entries
returns-in_err-entries c =
    let p = err_from_is_err_and c.from_residual-in_err-entries.result c.from_residual-in_err-entries.ensures.1 in
    rw p.1 (more_told _ _ _ _ _ _ _ _ p.2 c.in_ok-first.ensures c.in_err-entries.ensures)

pub returns : goal.returns
returns c = entries_read _ _ _ _ _ _ _ _ _ _ _ c.in_ok-first.ensures c.new-entries.ensures c.in_ok-push_entry.ensures c.in_ok-entries.ensures
