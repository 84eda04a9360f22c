use Rattle.std.proofs.Common.{◌≡◌, ◌++◌, length, reverse}
use Rattle.std.specs.Prelude.{map}
use Rattle.inst_walk.specs.Body.{block_renamed}
use Rattle.inst_walk.specs.Renaming.{renamed_name}
use Rattle.inst_walk.proofs.renamed.renamed_blocks.Given as goal

abbrev pub invariant-loop-block : goal.invariant-loop-block
invariant-loop-block g l = map (block_renamed g.I.InstSet.renamed (renamed_name g.I.Name.PartialEq.eq l.renaming)) l.blocks ++ reverse l.renamed.items ≡ map (block_renamed g.I.InstSet.renamed (renamed_name g.I.Name.PartialEq.eq l.renaming)) l.initial.blocks

abbrev pub decreases-loop-block : goal.decreases-loop-block
decreases-loop-block g l = length l.blocks
