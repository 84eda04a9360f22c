-- One more write takes the bytes behind those that the sink has.
use Rattle.std.proofs.Common.{◌∙◌}
use Rattle.ports.proofs.StreamLemmas.{Takes-then}
use Rattle.ports.proofs.transfer.write_all.Goals as goal

pub loop-at-preserved : goal.loop-at-preserved
loop-at-preserved g c =
    let bound = c.in_ok-at.ensures.bound in (
      bound,
      Takes-then _ _ _ _ _ _ c.loop-at.invariant.1 c.in_ok-at.ensures.bytes,
      c.in_ok-at.ensures.cause.kept ∙ c.loop-at.invariant.2,
    )
