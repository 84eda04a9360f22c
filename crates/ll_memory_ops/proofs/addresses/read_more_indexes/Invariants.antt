use Rattle.ll_operands.proofs.ItemsRead.{ItemsSoFar}
use Rattle.ll_memory_ops.specs.AddressParts.{index}
use Rattle.ll_memory_ops.proofs.addresses.read_more_indexes.Given as goal

abbrev pub invariant-loop-indexes : goal.invariant-loop-indexes
invariant-loop-indexes l = ItemsSoFar index l.fn.names l.names l.fn.indexes l.tokens l.indexes l.left

abbrev pub decreases-loop-indexes : goal.decreases-loop-indexes
decreases-loop-indexes l = l.left
