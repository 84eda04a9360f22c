use Rattle.std.proofs.Common.{◌≡◌, take}
use Rattle.std.specs.Prelude.{map}
use Rattle.inst_walk.proofs.flow.block_places.Given as goal

abbrev pub invariant-loop-block : goal.invariant-loop-block
invariant-loop-block g l = l.names.items ≡ map (λ b. b.name) (take l.block-index l.blocks)
