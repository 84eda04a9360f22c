use Rattle.ll_flow_ops.specs.FlowParts.{next_entry}
use Rattle.ll_operands.proofs.ItemsRead.{ItemsSoFar}
use Rattle.ll_flow_ops.proofs.phis.read_more_entries.Given as goal

abbrev pub invariant-loop-entries : goal.invariant-loop-entries
invariant-loop-entries l = ItemsSoFar (next_entry l.ty) l.fn.names l.names l.fn.entries l.tokens l.entries l.left

abbrev pub decreases-loop-entries : goal.decreases-loop-entries
decreases-loop-entries l = l.left
