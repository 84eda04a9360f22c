-- The parts of a `getelementptr` (LLVM 14, `getelementptr`).
use Rattle.std.specs.Prelude.{◌≡◌, List, [], ◌∷◌, ◌++◌, codes}
use Rattle.ll_tree.specs.declared.name.NameText.{NameText}
use Rattle.ll_tree.specs.declared.value.TypedValue.{TypedValue}
use Rattle.ll_parser.specs.GrammarValues.{typed}
use Rattle.ll_parser.specs.Productions.{Production, ◌>>◌, each_behind_comma, mark}
use Rattle.ll_parser.specs.Reading.{EndsNowhere}
use Rattle.ll_operands.specs.Parts.{Part, mark_part, operand_comma, repeated, ◌then◌, typed_part}
use Rattle.ll_memory_ops.specs.AccessParts.{if_word_part, pointee_part}

-- an index behind a comma, 44
abbrev pub index : List NameText → TypedValue → Production
index names i = mark 44 >> typed names i

abbrev pub index_part : Part
index_part = mark_part 44 then typed_part

-- indexes, one at least, and as many as there are
abbrev pub some_indexes : List NameText → List TypedValue → Production
some_indexes names [] tokens rest = ⊥
some_indexes names (i ∷ is) tokens rest = each_behind_comma (typed names) (i ∷ is) tokens rest

abbrev pub indexes : List NameText → List TypedValue → Production
indexes names is tokens rest = some_indexes names is tokens rest × EndsNowhere operand_comma rest

-- what was read before, and indexes, as many as there are
abbrev pub more_indexes : List TypedValue → List NameText → List TypedValue → Production
more_indexes before names all tokens rest =
    (is : List TypedValue) × (all ≡ before ++ is) × each_behind_comma (typed names) is tokens rest × EndsNowhere operand_comma rest

abbrev pub indexes_part : Part
indexes_part = index_part then repeated operand_comma index_part

abbrev pub address_part : Part
address_part = if_word_part (codes "inbounds") then pointee_part then indexes_part
