use Rattle.std.proofs.Common.{rules}
use Rattle.inst_walk.proofs.CallsLemmas.{block-added, blocks-added}
use Rattle.inst_walk.proofs.calls.callee_places.Goals as goal

pub loop-block-preserved : goal.loop-block-preserved
loop-block-preserved g c =
    block-added g.I.Name.PartialEq.eq g.I.InstSet.outline c.args.functions.now c.as_slice-blocks.result.now c.loop-block.block-index c.block-item.result _ _ _ (search rules) c.block-item.is c.as_slice.ensures c.loop-block.invariant c.in_ok-add_callees.ensures

pub returns : goal.returns
returns g c =
    blocks-added g.I.Name.PartialEq.eq g.I.InstSet.outline c.args.functions.now c.args.body.now _ _ _ c.loop-block-test.false c.as_slice-blocks.ensures c.loop-block.invariant
