-- The parts of which instructions consist, one behind another: which fronts of tokens are one, whatever values and names they stand
-- for, and where and by which rule tokens are refused that are to begin with one.
use Rattle.std.specs.Prelude.{◌≡◌, ℕ, zero, suc, ◌⊎◌, List, length, Option}
use Rattle.ll_tokens.specs.declared.kinds.TokenKind.TheVariants.{Local as LocalToken, Global as GlobalToken, MdName}
use Rattle.ll_tokens.specs.Tokens.{Lexeme}
use Rattle.ll_tree.specs.declared.name.NameKind.TheVariants.{Local as LocalName, Global as GlobalName}
use Rattle.ll_tree.specs.declared.name.NameText.{NameText}
use Rattle.ll_tree.specs.declared.ty.LlType.{LlType}
use Rattle.ll_tree.specs.Types.{int_width}
use Rattle.ll_parser.specs.declared.refusal.ReadError.{ReadError}
use Rattle.ll_parser.specs.declared.refusal.ReadError.TheVariants.{Refused}
use Rattle.ll_parser.specs.declared.refusal.Refusal.{Refusal}
use Rattle.ll_parser.specs.GrammarTypes.{number}
use Rattle.ll_parser.specs.GrammarValues.{local, global, typed}
use Rattle.ll_parser.specs.NameReading.{NameFails, any_of}
use Rattle.ll_parser.specs.Productions.{Production, nothing, ◌>>◌, word, mark}
use Rattle.ll_parser.specs.Reading.{DerivesNone, EndsNowhere}
use Rattle.ll_parser.specs.Spaces.{IsNoNumber, IsUnexpected}
use Rattle.ll_types.specs.TypeParts.{ty_here}
use Rattle.ll_types.specs.TypeRefusals.{TypeFails}
use Rattle.ll_types.specs.ValueParts.{value_of}
use Rattle.ll_types.specs.ValueRefusals.{TypedFails, Unless, ValueFails}

abbrev pub Stops : Type 1
Stops = List Lexeme → Refusal → Type 0

pub record Part : Type 1 where
  pub begins : Production
  pub stops : Stops

-- what is told where no such part is read
abbrev pub Refuses : Part → List Lexeme → ReadError → Type 0
Refuses part tokens = Unless (part.stops tokens)

-- a value of an item, by some table of names
abbrev pub any : {A : Type 0} → (List NameText → A → Production) → Production
any {A} item tokens rest = (names : List NameText) × (value : A) × item names value tokens rest

abbrev pub nothing_part : Part
nothing_part = record { begins = nothing; stops = λ tokens refusal. ⊥ }

abbrev pub word_part : List ℕ → Part
word_part text = record { begins = word text; stops = IsUnexpected (word text) }

abbrev pub mark_part : ℕ → Part
mark_part code = record { begins = mark code; stops = IsUnexpected (mark code) }

abbrev pub number_part : Part
number_part = record { begins = λ tokens rest. (value : ℕ) × number value tokens rest; stops = IsNoNumber }

abbrev pub type_part : Part
type_part = record { begins = any ty_here; stops = TypeFails }

abbrev pub typed_part : Part
typed_part = record { begins = any typed; stops = TypedFails }

abbrev pub local_part : Part
local_part = record { begins = any local; stops = λ tokens refusal. NameFails LocalToken LocalName tokens (Refused refusal) }

abbrev pub global_part : Part
global_part = record { begins = any global; stops = λ tokens refusal. NameFails GlobalToken GlobalName tokens (Refused refusal) }

-- a value of an integer type of so many bits, or of another type
abbrev pub value_part : Option ℕ → Part
value_part width = record {
  begins = λ tokens rest. (t : LlType) × (int_width t ≡ width) × any (value_of t) tokens rest;
  stops = λ tokens refusal. (t : LlType) × (int_width t ≡ width) × ValueFails t tokens refusal;
}

-- one part, then another
infixr 5 ◌then◌
abbrev pub ◌then◌ : Part → Part → Part
(first then second) = record {
  begins = first.begins >> second.begins;
  stops = λ tokens refusal. first.stops tokens refusal ⊎ ((middle : List Lexeme) × first.begins tokens middle × second.stops middle refusal);
}

-- a type, then a part that its number of bits decides on
abbrev pub type_then : (Option ℕ → Part) → Part
type_then next = record {
  begins = λ tokens rest. (names : List NameText) × (t : LlType) × (middle : List Lexeme) × ty_here names t tokens middle × (next (int_width t)).begins middle rest;
  stops = λ tokens refusal. TypeFails tokens refusal ⊎ ((names : List NameText) × (t : LlType) × (middle : List Lexeme) × ty_here names t tokens middle × (next (int_width t)).stops middle refusal);
}

-- the tokens begin so
abbrev pub Begins : Production → List Lexeme → Type 0
Begins opening tokens = (rest : List Lexeme) × opening tokens rest

-- a part where the tokens begin with its opening, and nothing where they don't
abbrev pub optional : Production → Part → Part
optional opening part = record {
  begins = λ tokens rest. part.begins tokens rest ⊎ ((tokens ≡ rest) × EndsNowhere opening tokens);
  stops = λ tokens refusal. Begins opening tokens × part.stops tokens refusal;
}

-- a part so many times
abbrev pub times : ℕ → Production → Production
times zero production = nothing
times (suc count) production = production >> times count production

-- a part where the tokens begin with its opening, and another one where they don't
abbrev pub either : Production → Part → Part → Part
either opening part other = record {
  begins = λ tokens rest. part.begins tokens rest ⊎ (EndsNowhere opening tokens × other.begins tokens rest);
  stops = λ tokens refusal. (Begins opening tokens × part.stops tokens refusal) ⊎ (EndsNowhere opening tokens × other.stops tokens refusal);
}

-- one of some words
abbrev pub one_word : {K : Type 0} → (K → List ℕ) → Part
one_word {K} text = record {
  begins = λ tokens rest. (key : K) × word (text key) tokens rest;
  stops = λ tokens refusal. DerivesNone (λ key. word (text key)) tokens × (refusal ≡ record { rule = 3; left = length tokens });
}

-- a part as often as the tokens begin with its opening
abbrev pub repeated : Production → Part → Part
repeated opening part = record {
  begins = λ tokens rest. (count : ℕ) × times count part.begins tokens rest × EndsNowhere opening rest;
  stops = λ tokens refusal. (count : ℕ) × (middle : List Lexeme) × times count part.begins tokens middle × Begins opening middle × part.stops middle refusal;
}

-- one of some words, and the part that it decides on
abbrev pub word_then : {K : Type 0} → (K → List ℕ) → (K → Part) → Part
word_then {K} text next = record {
  begins = λ tokens rest. (key : K) × (middle : List Lexeme) × word (text key) tokens middle × (next key).begins middle rest;
  stops = λ tokens refusal. (key : K) × (middle : List Lexeme) × word (text key) tokens middle × (next key).stops middle refusal;
}

-- a comma, 44, that no attachment follows
abbrev pub operand_comma : Production
operand_comma tokens rest = mark 44 tokens rest × EndsNowhere (any_of MdName) rest
