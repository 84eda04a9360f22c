use Rattle.std.proofs.Common.{inr}
use Rattle.std.proofs.lemmas.Result.{err_from_is_err_and}
use Rattle.ll_parser.specs.GrammarInsts.{order_word}
use Rattle.ll_operands.proofs.Readings.{told_refusal}
use Rattle.ll_memory_ops.specs.OrderParts.{order_part, scope_part, scoped_order_part}
use Rattle.ll_memory_ops.proofs.OperationsRead.{told_first}
use Rattle.ll_memory_ops.proofs.OrdersRead.{one_word_refused, scope_is_part, scoped_read}
use Rattle.ll_memory_ops.proofs.orders.read_scoped_order.Goals as goal

pub returns-in_err-scope : goal.returns-in_err-scope
returns-in_err-scope c =
    let p = err_from_is_err_and c.from_residual.result c.from_residual.ensures.1 in
    rw p.1 (told_first scope_part order_part _ _ _ p.2 c.in_err-scope.ensures)

pub returns-in_err-order : goal.returns-in_err-order
returns-in_err-order c =
    let p = err_from_is_err_and c.from_residual-in_err-order.result c.from_residual-in_err-order.ensures.1 in
    rw p.1 (told_refusal scoped_order_part _ _ _ p.2 (inr (_, scope_is_part _ _ _ c.in_ok-scope.ensures, one_word_refused order_word _ _ c.in_err-order.ensures.read c.in_err-order.ensures.place)))

pub returns : goal.returns
returns c = scoped_read _ _ _ _ _ c.in_ok-scope.ensures c.in_ok-order.ensures.read
