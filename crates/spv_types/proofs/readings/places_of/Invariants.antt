use Rattle.std.proofs.Common.{◌≡◌, ◌++◌, nat_eq, drop}
use Rattle.std.specs.HashMap.{get}
use Rattle.std.specs.Option.{option_map}
use Rattle.spv_types.specs.Readings.{places_of}
use Rattle.spv_types.proofs.readings.places_of.Given as goal

abbrev pub invariant-loop-id : goal.invariant-loop-id
invariant-loop-id l =
    places_of (get nat_eq l.places) l.ids ≡ option_map (λ rest. l.all.items ++ rest) (places_of (get nat_eq l.places) (drop l.id-index l.ids))
