use Rattle.std.proofs.Common.{rules}
use Rattle.graph_walk.proofs.Pending.{keeps-start, keeps-seen, keeps-fresh, work-falls, keeps-end}
use Rattle.graph_walk.proofs.depth_first.preorder.Goals as goal

pub loop-node-init : goal.loop-node-init
loop-node-init c =
    keeps-start _ _ _ _ _ c.requires.inside (search rules) c.new-order.ensures.items (search rules)

pub loop-node-preserved-then-index : goal.loop-node-preserved-then-index
loop-node-preserved-then-index c =
    keeps-seen _ _ _ _ _ _ _ c.requires.graph c.loop-node.invariant c.in-Some.ensures.items _ c.index.ensures c.if-index.true

pub loop-node-smaller : goal.loop-node-smaller
loop-node-smaller c =
    work-falls _ _ _ _ _ _ _ c.requires.graph c.loop-node.invariant c.in-Some.ensures.items _ c.index.ensures c.if-index.false _ _ c.in_ok-push-2.ensures.items _ c.index-rows-node.is (search rules)

pub loop-node-preserved : goal.loop-node-preserved
loop-node-preserved c =
    keeps-fresh _ _ _ _ _ _ _ c.requires.graph c.loop-node.invariant c.in-Some.ensures.items _ c.index.ensures c.if-index.false _ _ c.in_ok-push-2.ensures.items _ c.index-rows-node.is (search rules)

pub returns-clause-order : goal.returns-clause-order
returns-clause-order c = keeps-end _ _ _ _ _ c.loop-node.invariant (search rules)
