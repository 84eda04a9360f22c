use Rattle.std.proofs.Common.{rules, ◌≡◌}
use Rattle.inst_walk.specs.Body.{block_outline, body_outline, block_names}
use Rattle.inst_walk.proofs.BlockGraph.{map-taken}
use Rattle.inst_walk.proofs.flow.block_places.Goals as goal

pub returns : goal.returns
returns g c =
    let e : c.loop-block.names.items ≡ block_names (body_outline g.I.InstSet.outline c.args.body.now) =
    map-taken (λ b. b.name) (block_outline g.I.InstSet.outline) _ _ _ c.loop-block.block-index c.loop-block-test.false c.as_slice-blocks.ensures c.loop-block.invariant in
    search rules
