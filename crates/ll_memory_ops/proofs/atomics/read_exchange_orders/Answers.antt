use Rattle.std.proofs.Common.{inr}
use Rattle.std.proofs.lemmas.Result.{err_from_is_err_and}
use Rattle.ll_parser.specs.GrammarInsts.{order_word}
use Rattle.ll_operands.proofs.Readings.{told_refusal}
use Rattle.ll_memory_ops.specs.AtomicParts.{exchange_orders_part}
use Rattle.ll_memory_ops.specs.OrderParts.{order_part, scoped_order_part}
use Rattle.ll_memory_ops.proofs.AtomicsRead.{exchange_orders_read}
use Rattle.ll_memory_ops.proofs.OperationsRead.{told_first}
use Rattle.ll_memory_ops.proofs.OrdersRead.{one_word_refused, scoped_is_part}
use Rattle.ll_memory_ops.proofs.atomics.read_exchange_orders.Goals as goal

pub returns-in_err-equal : goal.returns-in_err-equal
returns-in_err-equal c =
    let p = err_from_is_err_and c.from_residual.result c.from_residual.ensures.1 in
    rw p.1 (told_first scoped_order_part order_part _ _ _ p.2 c.in_err-equal.ensures)

pub returns-in_err-unequal : goal.returns-in_err-unequal
returns-in_err-unequal c =
    let p = err_from_is_err_and c.from_residual-in_err-unequal.result c.from_residual-in_err-unequal.ensures.1 in
    rw p.1 (told_refusal exchange_orders_part _ _ _ p.2 (inr (_, scoped_is_part _ _ _ c.in_ok-equal.ensures, one_word_refused order_word _ _ c.in_err-unequal.ensures.read c.in_err-unequal.ensures.place)))

pub returns : goal.returns
returns c = exchange_orders_read _ _ _ _ _ c.in_ok-equal.ensures c.in_ok-unequal.ensures.read
