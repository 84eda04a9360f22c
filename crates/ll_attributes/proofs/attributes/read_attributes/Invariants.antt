use Rattle.ll_attributes.proofs.AttributesRead.{AttributesSoFar}
use Rattle.ll_attributes.proofs.attributes.read_attributes.Given as goal

abbrev pub invariant-loop-attributes : goal.invariant-loop-attributes
invariant-loop-attributes l = AttributesSoFar l.initial.names l.names l.tokens l.attributes l.left

abbrev pub decreases-loop-attributes : goal.decreases-loop-attributes
decreases-loop-attributes l = l.left
