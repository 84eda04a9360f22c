use Rattle.ll_types.proofs.Depths.{pushed, pushed_uncounted}
use Rattle.ll_types.proofs.nesting.depth_behind.Goals as goal

pub returns-in_ok-push-in-Counted-clause-depth : goal.returns-in_ok-push-in-Counted-clause-depth
returns-in_ok-push-in-Counted-clause-depth c = pushed _ _ _ c.requires.counted c.in_ok-push-in-Counted.ensures.ok

pub returns-in_ok-push-in-Uncounted-clause-depth : goal.returns-in_ok-push-in-Uncounted-clause-depth
returns-in_ok-push-in-Uncounted-clause-depth c =
    pushed_uncounted _ _ _ c.requires.counted c.in_ok-push-in-Uncounted.ensures.ok
