use Rattle.inst_walk.proofs.Collected.{all-added}
use Rattle.inst_walk.proofs.definitions.all_names.Goals as goal

pub returns : goal.returns
returns g c =
    all-added g.I.InstSet.outline c.args.body.now c.as_slice-blocks.result.now c.loop-block.block-index c.loop-block.names.items c.loop-block-test.false c.as_slice-blocks.ensures c.loop-block.invariant
