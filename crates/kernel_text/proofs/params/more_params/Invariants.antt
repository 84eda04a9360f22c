use Rattle.kernel_text.specs.Parts.{next_param}
use Rattle.kernel_text.proofs.ManyFacts.{ReadSoFar}
use Rattle.kernel_text.proofs.params.more_params.Given as goal

abbrev pub invariant-loop-params : goal.invariant-loop-params
invariant-loop-params l = ReadSoFar next_param l.initial.names l.names l.tokens l.params l.left

abbrev pub decreases-loop-params : goal.decreases-loop-params
decreases-loop-params l = l.left
