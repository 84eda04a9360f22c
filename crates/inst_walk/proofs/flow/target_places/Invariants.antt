use Rattle.std.proofs.Common.{◌≡◌, take}
use Rattle.inst_walk.specs.Places.{places_of}
use Rattle.inst_walk.proofs.flow.target_places.Given as goal

abbrev pub invariant-loop-i : goal.invariant-loop-i
invariant-loop-i g l = l.row ≡ places_of g.I.Name.PartialEq.eq l.names (take l.i (g.I.InstSet.outline l.inst).leads_to)
