use Rattle.ll_attributes.proofs.LoopFacts.{SoFar}
use Rattle.ll_items.proofs.ItemsRead.{braceless}
use Rattle.ll_items.proofs.groups.skip_inside.Given as goal

abbrev pub invariant-loop-behind : goal.invariant-loop-behind
invariant-loop-behind l = SoFar braceless l.tokens l.left

abbrev pub decreases-loop-behind : goal.decreases-loop-behind
decreases-loop-behind l = l.left
