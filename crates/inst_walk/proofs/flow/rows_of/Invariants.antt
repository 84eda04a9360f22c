use Rattle.std.proofs.Common.{◌≡◌, take}
use Rattle.std.specs.Prelude.{map}
use Rattle.inst_walk.specs.Body.{block_outline, targets_of}
use Rattle.inst_walk.specs.Places.{places_of}
use Rattle.inst_walk.proofs.flow.rows_of.Given as goal

abbrev pub invariant-loop-block : goal.invariant-loop-block
invariant-loop-block g l = l.rows.items ≡ map (λ b. places_of g.I.Name.PartialEq.eq l.names (targets_of (block_outline g.I.InstSet.outline b))) (take l.block-index l.blocks)
