use Rattle.std.proofs.lemmas.Result.{err_from_is_err_and}
use Rattle.ll_types.proofs.MembersRead.{derived}
use Rattle.ll_operands.specs.Operands.{three, three_part}
use Rattle.ll_operands.specs.Parts.{◌then◌}
use Rattle.ll_operands.proofs.OperandFacts.{three_is_part}
use Rattle.ll_memory_ops.specs.AccessParts.{align_part}
use Rattle.ll_memory_ops.specs.AtomicParts.{exchange_orders_part}
use Rattle.ll_memory_ops.proofs.AtomicsRead.{exchange_orders_are_part, exchange_read}
use Rattle.ll_memory_ops.proofs.OperationsRead.{told_first, told_middle, told_third}
use Rattle.ll_memory_ops.proofs.atomics.read_exchange.Goals as goal

pub returns-in_err-operands : goal.returns-in_err-operands
returns-in_err-operands c =
    let p = err_from_is_err_and c.from_residual.result c.from_residual.ensures.1 in
    rw p.1 (told_first three_part (exchange_orders_part then align_part) _ _ _ p.2 c.in_err-operands.ensures)

pub returns-in_err-orders : goal.returns-in_err-orders
returns-in_err-orders c =
    let p = err_from_is_err_and c.from_residual-in_err-orders.result c.from_residual-in_err-orders.ensures.1 in
    rw p.1 (told_middle three_part exchange_orders_part align_part _ _ _ _ p.2 (three_is_part _ _ _ _ (derived three _ _ _ _ _ c.in_ok-operands.ensures)) c.in_err-orders.ensures)

pub returns-in_err-align : goal.returns-in_err-align
returns-in_err-align c =
    let p = err_from_is_err_and c.from_residual-in_err-align.result c.from_residual-in_err-align.ensures.1 in
    rw p.1 (told_third three_part exchange_orders_part align_part _ _ _ _ p.2 (three_is_part _ _ _ _ (derived three _ _ _ _ _ c.in_ok-operands.ensures)) _ (exchange_orders_are_part _ _ _ c.in_ok-orders.ensures) c.in_err-align.ensures)

pub returns : goal.returns
returns c = exchange_read _ _ _ _ _ _ _ _ _ _ c.exchange_of.ensures c.in_ok-operands.ensures c.in_ok-orders.ensures c.in_ok-align.ensures
