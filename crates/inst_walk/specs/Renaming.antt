-- A renaming: a finite map from names to names, as the list of its entries.
use Rattle.std.specs.Prelude.{Bool, List, Option, unwrap_or}
use Rattle.std.specs.Map.{lookup}

module _ {N : Type 0} (eq : N → N → Bool) where
  -- what the map has at a name
  abbrev pub new_name : List (N × N) → N → Option N
  new_name entries name = lookup (eq name) entries

  -- the name itself where the map lacks it
  abbrev pub renamed_name : List (N × N) → N → N
  renamed_name entries name = unwrap_or (new_name entries name) name
