-- The number that another table gives to a name.
use Rattle.std.specs.Prelude.{ℕ, ◌+◌, if◌then◌else◌, List, [], ◌∷◌, Option, None, Some, slice_get}
use Rattle.ll_tree.specs.declared.name.Name.{Name}
use Rattle.ll_tree.specs.declared.name.NameText.{NameText}
use Rattle.ll_parser.specs.NameCodes.{is_same_name}

-- the first place of an entry in a table
unfoldable pub place_of : List NameText → NameText → ℕ
place_of [] entry = 0
place_of (first ∷ names) entry = if is_same_name first entry then 0 else place_of names entry + 1

abbrev pub place_of_some : List NameText → Option NameText → ℕ
place_of_some to None = 0
place_of_some to (Some entry) = place_of to entry

-- the name that a number stands for in one table, by its number in another
abbrev pub to_table : List NameText → List NameText → Name → Name
to_table from to name = record { number = place_of_some to (slice_get from name.number); byte = name.byte }
