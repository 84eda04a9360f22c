use Rattle.ll_attributes.proofs.SkipsRead.{FunctionSoFar}
use Rattle.ll_attributes.proofs.function_attributes.skip_function_attributes.Given as goal

abbrev pub invariant-loop-behind : goal.invariant-loop-behind
invariant-loop-behind l = FunctionSoFar l.tokens l.left

abbrev pub decreases-loop-behind : goal.decreases-loop-behind
decreases-loop-behind l = l.left
