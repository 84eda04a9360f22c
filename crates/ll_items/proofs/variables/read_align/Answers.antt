use Rattle.std.proofs.lemmas.Result.{err_from_is_err_and}
use Rattle.ll_items.proofs.VariablesRead.{align_read, align_stops}
use Rattle.ll_items.proofs.variables.read_align.Goals as goal

pub returns-in_err-bytes-in-Some : goal.returns-in_err-bytes-in-Some
returns-in_err-bytes-in-Some c =
    let p = err_from_is_err_and c.from_residual.result c.from_residual.ensures.1 in
    rw p.1 (align_stops _ _ _ _ p.2 c.in-Some.ensures c.in_err-bytes-in-Some.ensures.read c.in_err-bytes-in-Some.ensures.place)

pub returns-in_ok-bytes-in-Some : goal.returns-in_ok-bytes-in-Some
returns-in_ok-bytes-in-Some c = align_read _ _ _ _ c.in-Some.ensures c.in_ok-bytes-in-Some.ensures.read
