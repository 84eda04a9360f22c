use Rattle.std.proofs.Common.{◌≡◌, ◌≤◌, length, drop}
use Rattle.indexmap.specs.IndexMap.{get}
use Rattle.inst_walk.specs.Places.{place_of}
use Rattle.inst_walk.proofs.PlacesLemmas.{shifted}
use Rattle.inst_walk.proofs.name_places.Places.new.Given as goal

abbrev pub invariant-loop-at : goal.invariant-loop-at
invariant-loop-at g l = record {
  in_range : l.at ≤ length l.names.items;
  filled : (name : _) → get g.N.PartialEq.eq l.table name ≡ shifted l.at (place_of g.N.PartialEq.eq (drop l.at l.names.items) name);
}

abbrev pub decreases-loop-at : goal.decreases-loop-at
decreases-loop-at g l = l.at
