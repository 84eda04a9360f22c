use Rattle.std.proofs.lemmas.Result.{err_from_is_err_and}
use Rattle.ll_insts.proofs.InstsRead.{given_refused, named_attachments_refused, named_read, named_refused, unnamed_attachments_refused, unnamed_read, unnamed_refused}
use Rattle.ll_insts.proofs.insts.read_inst.Goals as goal

pub returns-in_err-name : goal.returns-in_err-name
returns-in_err-name c =
    let p = err_from_is_err_and c.from_residual.result c.from_residual.ensures.1 in
    rw p.1 (given_refused _ _ _ p.2 c.in_err-name.ensures)

pub returns-in_err-op-in-Some : goal.returns-in_err-op-in-Some
returns-in_err-op-in-Some c =
    let p = err_from_is_err_and c.from_residual-in_err-op-in-Some.result c.from_residual-in_err-op-in-Some.ensures.1 in
    rw p.1 (named_refused _ _ _ _ _ (rw c.in-Some.is at c.in_ok-name.ensures) _ _ p.2 c.in_err-op-in-Some.ensures)

pub returns-in_err-rest-in-Some : goal.returns-in_err-rest-in-Some
returns-in_err-rest-in-Some c =
    let p = err_from_is_err_and c.from_residual-in_err-rest-in-Some.result c.from_residual-in_err-rest-in-Some.ensures.1 in
    rw p.1 (named_attachments_refused _ _ _ _ _ _ _ _ _ _ p.2 (rw c.in-Some.is at c.in_ok-name.ensures) c.in_ok-op-in-Some.ensures c.in_err-rest-in-Some.ensures.1)

pub returns-in_err-op-in-None : goal.returns-in_err-op-in-None
returns-in_err-op-in-None c =
    let p = err_from_is_err_and c.from_residual-in_err-op-in-None.result c.from_residual-in_err-op-in-None.ensures.1 in
    let none = rw c.in-None.is at c.in_ok-name.ensures in
    rw p.1 (unnamed_refused _ _ _ p.2 none.1 c.in_err-op-in-None.ensures)

pub returns-in_err-rest-in-None : goal.returns-in_err-rest-in-None
returns-in_err-rest-in-None c =
    let p = err_from_is_err_and c.from_residual-in_err-rest-in-None.result c.from_residual-in_err-rest-in-None.ensures.1 in
    let none = rw c.in-None.is at c.in_ok-name.ensures in
    rw p.1 (unnamed_attachments_refused _ _ _ _ _ _ _ p.2 none.1 c.in_ok-op-in-None.ensures c.in_err-rest-in-None.ensures.1)

pub returns-in_ok-next-in-Some : goal.returns-in_ok-next-in-Some
returns-in_ok-next-in-Some c =
    named_read _ _ _ _ _ _ _ _ _ _ _ _ _ c.named_inst.ensures c.first_place-byte.ensures (rw c.in-Some.is at c.in_ok-name.ensures) c.in_ok-op-in-Some.ensures c.in_ok-rest-in-Some.ensures c.in_ok-next-in-Some.ensures

pub returns-in_ok-defines-in-None : goal.returns-in_ok-defines-in-None
returns-in_ok-defines-in-None c =
    let none = rw c.in-None.is at c.in_ok-name.ensures in
    unnamed_read _ _ _ _ _ _ _ _ _ _ _ _ none.0 c.first_place-byte.ensures c.in_ok-op-in-None.ensures c.in_ok-rest-in-None.ensures c.in_ok-defines-in-None.ensures
