-- Types with all their pointers, and what stands between the brackets of a type (LLVM 14, Type System).
use Rattle.std.specs.Prelude.{ℕ, List, [], ◌∷◌, codes}
use Rattle.ll_tree.specs.declared.name.NameText.{NameText}
use Rattle.ll_tree.specs.declared.ty.LlType.{LlType}
use Rattle.ll_parser.specs.GrammarTypes.{number, ty}
use Rattle.ll_parser.specs.Pointers.{NoPointer}
use Rattle.ll_parser.specs.Productions.{Production, nothing, ◌>>◌, word, mark, each_behind_comma}
use Rattle.ll_types.specs.declared.types.Counted.{Counted}

-- a type, behind which no further pointer begins
abbrev pub ty_here : List NameText → LlType → Production
ty_here names t tokens rest = ty names t tokens rest × NoPointer rest

-- a number, `x` and a type, and the bracket that closes them, by its code
abbrev pub counted : ℕ → List NameText → Counted → Production
counted close names c = number c.count >> word (codes "x") >> ty_here names c.part >> mark close

-- one type or more, with commas between them
abbrev pub some_types : List NameText → List LlType → Production
some_types names [] tokens rest = ⊥
some_types names (t ∷ ts) tokens rest = (ty_here names t >> each_behind_comma (ty_here names) ts) tokens rest

abbrev pub all_types : List NameText → List LlType → Production
all_types names [] tokens rest = nothing tokens rest
all_types names (t ∷ ts) tokens rest = some_types names (t ∷ ts) tokens rest

-- types with commas between them, and the `}`, 125, behind them
abbrev pub members : List NameText → List LlType → Production
members names ms = all_types names ms >> mark 125

-- a type behind a comma, 44
abbrev pub next_type : List NameText → LlType → Production
next_type names t = mark 44 >> ty_here names t
