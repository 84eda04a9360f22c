use Rattle.std.proofs.Common.{rules}
use Rattle.ocl_names.specs.Orders.{order_parts}
use Rattle.ocl_names.proofs.OrderLemmas.{no_order}
use Rattle.ocl_names.proofs.ordering.order_of.Goals as goal

pub returns-clause-none : goal.returns-clause-none
unfolding order_parts
returns-clause-none c = no_order c.args.mask c.map.result (search rules)
