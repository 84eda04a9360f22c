use Rattle.ll_calls.specs.CallParts.{next_argument}
use Rattle.ll_operands.proofs.ItemsRead.{ItemsSoFar}
use Rattle.ll_calls.proofs.arguments.read_more_arguments.Given as goal

abbrev pub invariant-loop-arguments : goal.invariant-loop-arguments
invariant-loop-arguments l = ItemsSoFar next_argument l.fn.names l.names l.fn.arguments l.tokens l.arguments l.left

abbrev pub decreases-loop-arguments : goal.decreases-loop-arguments
decreases-loop-arguments l = l.left
