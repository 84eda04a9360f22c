use Rattle.ll_attributes.proofs.LoopFacts.{SoFar}
use Rattle.ll_insts.proofs.BlocksRead.{Next}
use Rattle.ll_insts.proofs.blocks.read_more_blocks.Given as goal

abbrev pub invariant-loop-alloc : goal.invariant-loop-alloc
invariant-loop-alloc l = SoFar (Next l.fn.next l.next l.fn.names l.names l.blocks.items) l.tokens l.left

abbrev pub decreases-loop-alloc : goal.decreases-loop-alloc
decreases-loop-alloc l = l.left
