use Rattle.std.proofs.lemmas.Result.{err_from_is_err_and}
use Rattle.ll_insts.proofs.InstsRead.{named_operation_read, named_told}
use Rattle.ll_insts.proofs.insts.read_named_operation.Goals as goal

pub returns-in_err-op : goal.returns-in_err-op
returns-in_err-op c =
    let p = err_from_is_err_and c.from_residual.result c.from_residual.ensures.1 in
    rw p.1 (named_told _ _ _ p.2 (c.begins_unnamed.ensures.absent c.if-begins_unnamed.false) c.in_err-op.ensures)

pub returns : goal.returns
returns c = named_operation_read _ _ _ _ _ (c.begins_unnamed.ensures.absent c.if-begins_unnamed.false) c.in_ok-op.ensures
