use Rattle.std.proofs.Common.{◌≡◌, take}
use Rattle.inst_walk.specs.Body.{body_outline}
use Rattle.inst_walk.specs.Uses.{reached_labels}
use Rattle.inst_walk.proofs.definitions.block_labels.Given as goal

abbrev pub invariant-loop-place : goal.invariant-loop-place
invariant-loop-place g l = l.names.items ≡ reached_labels (body_outline g.I.InstSet.outline l.body) (take l.place-index l.order)
