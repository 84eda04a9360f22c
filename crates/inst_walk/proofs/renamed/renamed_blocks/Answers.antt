use Rattle.inst_walk.specs.Body.{block_renamed}
use Rattle.inst_walk.specs.Renaming.{renamed_name}
use Rattle.inst_walk.proofs.Rebuilt.{one-moved}
use Rattle.inst_walk.proofs.renamed.renamed_blocks.Goals as goal

pub loop-block-preserved : goal.loop-block-preserved
loop-block-preserved g c =
    one-moved (block_renamed g.I.InstSet.renamed (renamed_name g.I.Name.PartialEq.eq c.args.renaming.now)) _ _ _ _ _ _ _ c.in-Some.ensures c.in_ok-renamed_block.ensures c.in_ok-push.ensures.items c.loop-block.invariant
