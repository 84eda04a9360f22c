-- The parts of a `cmpxchg` and of an `atomicrmw` (LLVM 14, `cmpxchg` and `atomicrmw`).
use Rattle.ll_parser.specs.GrammarInsts.{order, rmw_word}
use Rattle.ll_parser.specs.Productions.{Production, ◌>>◌}
use Rattle.ll_operands.specs.Operands.{three_part, two_part}
use Rattle.ll_operands.specs.Parts.{Part, one_word, ◌then◌}
use Rattle.ll_memory_ops.specs.declared.atomics.ExchangeOrders.{ExchangeOrders}
use Rattle.ll_memory_ops.specs.AccessParts.{align_part}
use Rattle.ll_memory_ops.specs.OrderParts.{order_part, scoped_order, scoped_order_part}

-- the order with its scope, and the order where the values differ
abbrev pub exchange_orders : ExchangeOrders → Production
exchange_orders o = scoped_order o.equal >> order o.unequal

abbrev pub exchange_orders_part : Part
exchange_orders_part = scoped_order_part then order_part

abbrev pub exchange_part : Part
exchange_part = three_part then exchange_orders_part then align_part

abbrev pub update_part : Part
update_part = one_word rmw_word then two_part then scoped_order_part then align_part
