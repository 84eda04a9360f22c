use Rattle.ll_canon.proofs.CanonicalMade.{number-more}
use Rattle.ll_canon.proofs.numbered.add_numbers.Goals as goal

pub loop-number-preserved : goal.loop-number-preserved
loop-number-preserved c = number-more _ _ _ _ _ c.in-Ok.ensures.1 c.loop-number.invariant c.in_ok-push.ensures.ok
