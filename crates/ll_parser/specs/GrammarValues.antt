-- The productions of values (LLVM 14, Constants).
use Rattle.std.specs.Prelude.{◌≡◌, ℕ, ◌+◌, ◌-◌, ◌^◌, ◌≤◌, ◌&&◌, ℤ, pos, neg_ℤ, ◌≤ℤ◌, Bool, true, false, if◌then◌else◌, nat_lt, List, drop, codes, Option, None, Some}
use Rattle.ll_tokens.specs.declared.kinds.TokenKind.TheVariants.{Int as IntToken, Local as LocalToken, Global as GlobalToken, CStr}
use Rattle.ll_tree.specs.declared.name.Name.{Name}
use Rattle.ll_tree.specs.declared.name.NameKind.TheVariants.{Local as LocalName, Global as GlobalName}
use Rattle.ll_tree.specs.declared.name.NameText.{NameText}
use Rattle.ll_tree.specs.declared.op.CastKind.{CastKind}
use Rattle.ll_tree.specs.declared.op.CastKind.TheVariants.{Trunc, Zext, Sext, PtrToInt, IntToPtr, Bitcast, AddrSpaceCast}
use Rattle.ll_tree.specs.declared.ty.LlType.{LlType}
use Rattle.ll_tree.specs.declared.value.TypedValue.{TypedValue}
use Rattle.ll_tree.specs.declared.value.Value.{Value, Local, Global, Int, Bytes, Bool as Truth, Null, Zero, Undef, Poison, Vector', Array', Struct', Packed', GetElementPtr', Cast', Row_of-TypedValue, end_of-TypedValue, more_of-TypedValue}
use Rattle.ll_tree.specs.Types.{int_width}
use Rattle.ll_parser.specs.Productions.{Production, nothing, ◌>>◌, token, word, mark}
use Rattle.ll_parser.specs.Spellings.{integer_value, between_quotes, Spells}
use Rattle.ll_parser.specs.GrammarTypes.{ty}

-- the bits that a number may have: those of an integer type of 1 to 64 bits, else none but the general range
abbrev pub bits_of_numbers : Option ℕ → Option ℕ
bits_of_numbers None = None
bits_of_numbers (Some bits) = if nat_lt 0 bits && nat_lt bits 65 then Some bits else None

-- A number of a type of N bits lies from -2^(N-1) to 2^N - 1, and any other from -2^63 to 2^64 - 1
abbrev pub IsInRange : Option ℕ → ℤ → Type 0
IsInRange (Some bits) number = (neg_ℤ (pos (2 ^ (bits - 1))) ≤ℤ number) × (number ≤ℤ pos (2 ^ bits - 1))
IsInRange None number = (neg_ℤ (pos (2 ^ 63)) ≤ℤ number) × (number ≤ℤ pos (2 ^ 64 - 1))

-- a number as a value of a type
abbrev pub integer : LlType → ℤ → Production
integer t number = token IntToken (λ lexeme. (integer_value lexeme.text ≡ number) × IsInRange (bits_of_numbers (int_width t)) number)

-- a word that stands or doesn't
abbrev pub if_word : List ℕ → Bool → Production
if_word text true = word text
if_word text false = nothing

-- the word of a conversion
abbrev pub cast_word : CastKind → List ℕ
cast_word Trunc = codes "trunc"
cast_word Zext = codes "zext"
cast_word Sext = codes "sext"
cast_word PtrToInt = codes "ptrtoint"
cast_word IntToPtr = codes "inttoptr"
cast_word Bitcast = codes "bitcast"
cast_word AddrSpaceCast = codes "addrspacecast"

-- a conversion that a constant may have
abbrev pub IsOfConstants : CastKind → Type 0
IsOfConstants Trunc = ⊥
IsOfConstants Zext = ⊥
IsOfConstants Sext = ⊥
IsOfConstants _ = Unit {0}

-- how many values a list has
abbrev pub count_of : {n : _} → Row_of-TypedValue n → ℕ
count_of end_of-TypedValue = 0
count_of (more_of-TypedValue t v rest) = count_of rest + 1

-- a production under a condition
abbrev pub only : Type 0 → Production → Production
only condition production tokens rest = condition × production tokens rest

module _ (names : List NameText) where
  -- the name of a value or a block of a function, behind its `%`
  abbrev pub local : Name → Production
  local name =
      token LocalToken (λ lexeme. (name.byte ≡ lexeme.byte) × Spells names LocalName (drop 1 lexeme.text) name.number)

  -- the name of a function or a variable, behind its `@`
  abbrev pub global : Name → Production
  global name =
      token GlobalToken (λ lexeme. (name.byte ≡ lexeme.byte) × Spells names GlobalName (drop 1 lexeme.text) name.number)

  abbrev mutual
    -- A value, with the type that is written for it, which bounds its number. 91 and 93 are `[` and `]`, 60
    -- and 62 `<` and `>`, 123 and 125 `{` and `}`, 40 and 41 `(` and `)`.
    pub value : Value → LlType → Production
    value (Local name) t = local name
    value (Global name) t = global name
    value (Int number) t = integer t number
    value (Bytes bytes) t = token CStr (λ lexeme. between_quotes (drop 1 lexeme.text) ≡ bytes)
    value (Truth true) t = word (codes "true")
    value (Truth false) t = word (codes "false")
    value Null t = word (codes "null")
    value Zero t = word (codes "zeroinitializer")
    value Undef t = word (codes "undef")
    value Poison t = word (codes "poison")
    value (Vector' shape parts) t = mark 60 >> values parts >> mark 62
    value (Array' shape parts) t = mark 91 >> values parts >> mark 93
    value (Struct' shape parts) t = mark 123 >> values parts >> mark 125
    value (Packed' shape parts) t = mark 60 >> mark 123 >> values parts >> mark 125 >> mark 62
    value (GetElementPtr' inbounds through shape operands) t =
        word (codes "getelementptr") >> if_word (codes "inbounds") inbounds >> mark 40 >> ty names through >> only (2 ≤ count_of operands) (values_behind operands) >> mark 41
    value (Cast' kind shape operand to) t =
        only (IsOfConstants kind) (word (cast_word kind)) >> mark 40 >> values operand >> word (codes "to") >> ty names to >> mark 41

    -- values with their types, with commas between them
    pub values : {n : _} → Row_of-TypedValue n → Production
    values end_of-TypedValue = nothing
    values (more_of-TypedValue t v rest) = ty names t >> value v t >> values_behind rest

    -- values with their types, with a comma, 44, before each of them
    pub values_behind : {n : _} → Row_of-TypedValue n → Production
    values_behind end_of-TypedValue = nothing
    values_behind (more_of-TypedValue t v rest) = mark 44 >> ty names t >> value v t >> values_behind rest

  -- a value behind its type
  abbrev pub typed : TypedValue → Production
  typed tv = ty names tv.ty >> value tv.value tv.ty
