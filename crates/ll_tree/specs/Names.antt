-- What becomes of a name: another number, or no place.
use Rattle.std.specs.Prelude.{ℕ}
use Rattle.ll_tree.specs.declared.name.Name.{Name}

-- the name with its number replaced
abbrev pub name_renamed : (ℕ → ℕ) → Name → Name
name_renamed f name = record { number = f name.number; byte = name.byte }

-- the name at the text's first byte
abbrev pub name_unplaced : Name → Name
name_unplaced name = record { number = name.number; byte = 0 }

abbrev pub number_of : Name → ℕ
number_of name = name.number
