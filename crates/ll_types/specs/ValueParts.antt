-- What stands inside values of several tokens (LLVM 14, Constants).
use Rattle.std.specs.Prelude.{◌≡◌, ℕ, ◌≤◌, ◌⊎◌, List, [], ◌∷◌, ◌++◌, codes, length}
use Rattle.ll_tokens.specs.Tokens.{Lexeme}
use Rattle.ll_tree.specs.declared.name.NameText.{NameText}
use Rattle.ll_tree.specs.declared.ty.LlType.{LlType}
use Rattle.ll_tree.specs.declared.value.TypedValue.{TypedValue}
use Rattle.ll_tree.specs.declared.value.Value.{Value, Vector, Packed}
use Rattle.ll_parser.specs.GrammarValues.{if_word, only, typed, value}
use Rattle.ll_parser.specs.Productions.{Production, nothing, ◌>>◌, word, mark, each_behind_comma}
use Rattle.ll_parser.specs.Reading.{EndsNowhere}
use Rattle.ll_types.specs.declared.values.Conversion.{Conversion}
use Rattle.ll_types.specs.declared.values.Path.{Path}
use Rattle.ll_types.specs.TypeParts.{ty_here}

-- a value of a type
abbrev pub value_of : LlType → List NameText → Value → Production
value_of t names v = value names v t

-- values with their types, with commas between them
abbrev pub all_values : List NameText → List TypedValue → Production
all_values names [] tokens rest = nothing tokens rest
all_values names (v ∷ vs) tokens rest = (typed names v >> each_behind_comma (typed names) vs) tokens rest

-- the same with a mark behind them, by its code
abbrev pub parts : ℕ → List NameText → List TypedValue → Production
parts close names vs = all_values names vs >> mark close

-- what was read, and the values behind commas that follow: the tokens go on with no comma, 44
abbrev pub grown : List TypedValue → List NameText → List TypedValue → Production
grown before names all tokens rest =
    (vs : List TypedValue) × (all ≡ before ++ vs) × each_behind_comma (typed names) vs tokens rest × EndsNowhere (mark 44) rest

-- behind a `<`: lanes and `>`, 62, or the members of a packed struct between `{`, 123, and `}>`, 125 and 62
abbrev pub angle : List NameText → Value → Production
angle names v tokens rest =
    (vs : List TypedValue) × (((v ≡ Vector vs) × parts 62 names vs tokens rest) ⊎ ((v ≡ Packed vs) × (mark 123 >> parts 125 names vs >> mark 62) tokens rest))

-- two operands or more, each behind a comma, and the `)`, 41, behind them
abbrev pub operands : List NameText → List TypedValue → Production
operands names vs = only (2 ≤ length vs) (each_behind_comma (typed names) vs) >> mark 41

-- what stands behind `getelementptr`: 40 is `(`
abbrev pub path : List NameText → Path → Production
path names p = if_word (codes "inbounds") p.inbounds >> mark 40 >> ty_here names p.through >> operands names p.operands

-- what stands behind the word of a conversion
abbrev pub conversion : List NameText → Conversion → Production
conversion names c = mark 40 >> typed names c.operand >> word (codes "to") >> ty_here names c.to >> mark 41

-- a comma or the closing brace, which stand behind a member of a struct type
abbrev pub EndsMember : List Lexeme → Type 0
EndsMember tokens = (rest : List Lexeme) × (mark 44 tokens rest ⊎ mark 125 tokens rest)

-- Behind `<{` a struct type goes on, which is that of a vector's first lane, and no packed struct does: the brace is closed and
-- no `>` follows, or a comma or the closing brace stands behind the first type
pub data IsLane : List Lexeme → Type 0 where
  empty : {tokens : List Lexeme} (behind : List Lexeme) → mark 125 tokens behind → EndsNowhere (mark 62) behind → IsLane tokens
  before_end : {tokens : List Lexeme} (names : List NameText) (t : LlType) (end : List Lexeme) → ty_here names t tokens end → EndsMember end → IsLane tokens
