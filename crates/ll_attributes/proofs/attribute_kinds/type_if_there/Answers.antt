use Rattle.std.proofs.lemmas.Result.{err_from_is_err_and}
use Rattle.ll_attributes.proofs.AttributesRead.{brackets_read, close_stops, type_stops}
use Rattle.ll_attributes.proofs.attribute_kinds.type_if_there.Goals as goal

pub returns-in_err-ty-in-Ok : goal.returns-in_err-ty-in-Ok
returns-in_err-ty-in-Ok c =
    let p = err_from_is_err_and c.from_residual.result c.from_residual.ensures.1 in
    rw p.1 (type_stops _ _ _ _ p.2 c.in-Ok.ensures.read c.in_err-ty-in-Ok.ensures)

pub returns-in_err-rest-in-Ok : goal.returns-in_err-rest-in-Ok
returns-in_err-rest-in-Ok c =
    let p = err_from_is_err_and c.from_residual-in_err-rest-in-Ok.result c.from_residual-in_err-rest-in-Ok.ensures.1 in
    rw p.1 (close_stops _ _ _ _ _ _ _ _ p.2 c.in-Ok.ensures.read c.in_ok-ty-in-Ok.ensures c.in_err-rest-in-Ok.ensures.read c.in_err-rest-in-Ok.ensures.place)

pub returns-in_ok-rest-in-Ok : goal.returns-in_ok-rest-in-Ok
returns-in_ok-rest-in-Ok c = brackets_read _ _ _ _ _ _ _ c.in-Ok.ensures.read c.in_ok-ty-in-Ok.ensures c.in_ok-rest-in-Ok.ensures.read
