use Rattle.std.proofs.Common.{codes}
use Rattle.std.proofs.lemmas.Result.{err_from_is_err_and}
use Rattle.ll_parser.specs.Productions.{word}
use Rattle.ll_memory_ops.specs.OrderParts.{written_scope_part}
use Rattle.ll_memory_ops.proofs.OperationsRead.{optional_told}
use Rattle.ll_memory_ops.proofs.OrdersRead.{no_scope, scope_read}
use Rattle.ll_memory_ops.proofs.orders.read_scope.Goals as goal

pub returns-in_err-text-in-Ok : goal.returns-in_err-text-in-Ok
returns-in_err-text-in-Ok c =
    let p = err_from_is_err_and c.from_residual.result c.from_residual.ensures.1 in
    rw p.1 (optional_told (word (codes "syncscope")) written_scope_part _ _ _ p.2 (_, c.in-Ok.ensures.read) c.in_err-text-in-Ok.ensures)

pub returns-in_ok-text-in-Ok : goal.returns-in_ok-text-in-Ok
returns-in_ok-text-in-Ok c = scope_read _ _ _ c.in_ok-text-in-Ok.ensures

pub returns-in-Err : goal.returns-in-Err
returns-in-Err c = no_scope _ c.in-Err.ensures.read
