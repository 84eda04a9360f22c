use Rattle.std.proofs.Common.{refl}
use Rattle.kernel_text.proofs.BlockFacts.{number_push}
use Rattle.kernel_text.proofs.blocks.number_behind.Goals as goal

pub loop-param-preserved : goal.loop-param-preserved
loop-param-preserved c =
    number_push _ _ c.loop-param.param-index _ _ _ _ c.loop-param-test.true refl c.loop-param.invariant c.in_ok-number.ensures
