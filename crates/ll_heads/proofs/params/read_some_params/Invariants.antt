use Rattle.ll_heads.proofs.ParamsRead.{ParamsSoFar}
use Rattle.ll_heads.proofs.params.read_some_params.Given as goal

abbrev pub invariant-loop-params : goal.invariant-loop-params
invariant-loop-params l = ParamsSoFar l.fn.numbering l.numbering l.fn.names l.names l.tokens l.params l.left

abbrev pub decreases-loop-params : goal.decreases-loop-params
decreases-loop-params l = l.left
