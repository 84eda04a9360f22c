-- Where a name stands in a list of names.
use Rattle.std.specs.Prelude.{ℕ, suc, Bool, List, [], ◌∷◌, Option, None, Some, is_some, if◌then◌else◌, filter_map}
use Rattle.std.specs.Option.{option_map}

module _ {N : Type 0} (eq : N → N → Bool) where
  -- the first place at which the name stands
  abbrev pub place_of : List N → N → Option ℕ
  place_of [] name = None
  place_of (n ∷ names) name = if eq n name then Some 0 else option_map suc (place_of names name)

  -- the places of those names that stand in the list
  abbrev pub places_of : List N → List N → List ℕ
  places_of names wanted = filter_map (place_of names) wanted

  -- whether the name stands in the list
  abbrev pub is_among : List N → N → Bool
  is_among names name = is_some (place_of names name)
