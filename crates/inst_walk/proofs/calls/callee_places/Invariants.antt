use Rattle.std.proofs.Common.{◌≡◌, take}
use Rattle.std.specs.Prelude.{flat_map}
use Rattle.inst_walk.specs.Places.{places_of}
use Rattle.inst_walk.proofs.CallsLemmas.{called_in}
use Rattle.inst_walk.proofs.calls.callee_places.Given as goal

abbrev pub invariant-loop-block : goal.invariant-loop-block
invariant-loop-block g l = l.row ≡ places_of g.I.Name.PartialEq.eq l.functions (flat_map (called_in g.I.Name.PartialEq.eq g.I.InstSet.outline l.functions) (take l.block-index l.blocks))
