use Rattle.graph_walk.proofs.Pending.{KeepsOrder, work_left}
use Rattle.graph_walk.proofs.depth_first.preorder.Given as goal

abbrev pub invariant-loop-node : goal.invariant-loop-node
invariant-loop-node l = KeepsOrder l.rows l.first l.seen.items l.order.items l.stack.items

abbrev pub decreases-loop-node : goal.decreases-loop-node
decreases-loop-node l = work_left l.rows l.order.items l.stack.items
