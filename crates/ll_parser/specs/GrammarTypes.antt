-- The productions of types (LLVM 14, Type System).
use Rattle.std.specs.Prelude.{◌≡◌, ℕ, ◌^◌, ◌-◌, ◌<◌, pos, min, IsTrue, List, [], ◌∷◌, drop, codes}
use Rattle.std.specs.List.{list_all}
use Rattle.std.specs.Char.{is_ascii_digit}
use Rattle.ll_tokens.specs.declared.kinds.TokenKind.TheVariants.{Int as IntToken, Local as LocalToken, Word}
use Rattle.ll_tree.specs.declared.name.Name.{Name}
use Rattle.ll_tree.specs.declared.name.NameKind.TheVariants.{Struct as StructName}
use Rattle.ll_tree.specs.declared.name.NameText.{NameText}
use Rattle.ll_tree.specs.declared.ty.LlType.{LlType}
use Rattle.ll_tree.specs.declared.ty.TypeBase.{TypeBase, Void, Int, Half, Float, Double, Named, Array', Vector', Struct', Packed', Row_of-LlType, end_of-LlType, more_of-LlType}
use Rattle.ll_parser.specs.Productions.{Production, nothing, ◌>>◌, ◌or◌, token, word, mark, each}
use Rattle.ll_parser.specs.Spellings.{decimal_value, integer_value, Spells}

-- a number from 0 to 2^63 - 1
abbrev pub number : ℕ → Production
number value = token IntToken (λ lexeme. (integer_value lexeme.text ≡ pos value) × (value < 2 ^ 63))

-- `addrspace`, and the number of the space between `(`, 40, and `)`, 41
abbrev pub written_space : ℕ → Production
written_space space = word (codes "addrspace") >> mark 40 >> number space >> mark 41

-- an address space, which is 0 where it isn't written
abbrev pub space : ℕ → Production
space value = written_space value or (λ tokens rest. (value ≡ 0) × (tokens ≡ rest))

-- a `*`, 42, with its address space
abbrev pub pointer : ℕ → Production
pointer value = space value >> mark 42

-- `i`, 105, and digits: their number, or 2^64 - 1 where it is greater
abbrev pub integer_type : ℕ → Production
integer_type bits =
    token Word (λ lexeme. (digits : List ℕ) × (lexeme.text ≡ 105 ∷ digits) × IsTrue (list_all is_ascii_digit digits) × (digits ≡ [] → ⊥) × (bits ≡ min (decimal_value digits) (2 ^ 64 - 1)))

module _ (names : List NameText) where
  -- the name of a struct type, behind its `%`
  abbrev pub type_name : Name → Production
  type_name name =
      token LocalToken (λ lexeme. (name.byte ≡ lexeme.byte) × Spells names StructName (drop 1 lexeme.text) name.number)

  abbrev mutual
    -- 91 and 93 are `[` and `]`, 60 and 62 `<` and `>`, 123 and 125 `{` and `}`
    pub type_base : TypeBase → Production
    type_base Void = word (codes "void")
    type_base (Int bits) = integer_type bits
    type_base Half = word (codes "half")
    type_base Float = word (codes "float")
    type_base Double = word (codes "double")
    type_base (Named name) = type_name name
    type_base (Array' count shape part) = mark 91 >> number count >> word (codes "x") >> types part >> mark 93
    type_base (Vector' lanes shape part) = mark 60 >> number lanes >> word (codes "x") >> types part >> mark 62
    type_base (Struct' shape members) = mark 123 >> types members >> mark 125
    type_base (Packed' shape members) = mark 60 >> mark 123 >> types members >> mark 125 >> mark 62

    -- types with commas between them
    pub types : {n : _} → Row_of-LlType n → Production
    types end_of-LlType = nothing
    types (more_of-LlType base pointers rest) = type_base base >> each pointer pointers >> types_behind rest

    -- types with a comma, 44, before each of them
    pub types_behind : {n : _} → Row_of-LlType n → Production
    types_behind end_of-LlType = nothing
    types_behind (more_of-LlType base pointers rest) = mark 44 >> type_base base >> each pointer pointers >> types_behind rest

  abbrev pub ty : LlType → Production
  ty t = type_base t.base >> each pointer t.pointers
