-- Parameters as they are read, each with all that belongs to it (LLVM 14, Functions). Those of a definition are numbered: the
-- numbering is the next number, which a parameter has that is given no name. A declaration has no numbering.
use Rattle.std.specs.Prelude.{◌≡◌, ℕ, ◌⊎◌, List, [], ◌∷◌, Option, None, Some, slice_get}
use Rattle.ll_tokens.specs.declared.kinds.TokenKind.TheVariants.{Local as LocalToken}
use Rattle.ll_tokens.specs.Tokens.{Lexeme}
use Rattle.ll_tree.specs.declared.module.Param.{Param}
use Rattle.ll_tree.specs.declared.name.Name.{Name}
use Rattle.ll_tree.specs.declared.name.NameText.{NameText}
use Rattle.ll_parser.specs.declared.refusal.Refusal.{Refusal}
use Rattle.ll_parser.specs.GrammarFunctions.{IsNumbered, next_behind}
use Rattle.ll_parser.specs.GrammarValues.{local}
use Rattle.ll_parser.specs.NameReading.{any_of}
use Rattle.ll_parser.specs.Productions.{Production, ◌>>◌, mark}
use Rattle.ll_parser.specs.Reading.{EndsNowhere}
use Rattle.ll_parser.specs.Tables.{Extends}
use Rattle.ll_types.specs.TypeParts.{ty_here}
use Rattle.ll_operands.specs.Parts.{Begins}
use Rattle.ll_attributes.specs.AttributeParts.{attributes_here}
use Rattle.ll_heads.specs.HeadParts.{next_part}

-- the place of the first token
abbrev pub first_place : List Lexeme → ℕ
first_place [] = 0
first_place (first ∷ rest) = first.byte

abbrev pub written_name : List NameText → Option Name → Production
written_name names None tokens rest = ⊥
written_name names (Some name) tokens rest = local names name tokens rest

-- what a parameter at this place is called that is given no name
abbrev pub IsLeftOut : List NameText → Option ℕ → ℕ → Option Name → Type 0
IsLeftOut names None byte None = Unit {0}
IsLeftOut names None byte (Some name) = ⊥
IsLeftOut names (Some next) byte None = ⊥
IsLeftOut names (Some next) byte (Some name) = IsNumbered names name.number next × (name.byte ≡ byte)

abbrev pub name_here : Option ℕ → ℕ → List NameText → Option Name → Production
name_here numbering byte names name tokens rest =
    written_name names name tokens rest
    ⊎ (IsLeftOut names numbering byte name × (tokens ≡ rest) × EndsNowhere (any_of LocalToken) tokens)

-- the numbering behind a parameter of this name
abbrev pub numbering_behind : List NameText → Option Name → Option ℕ → Option ℕ
numbering_behind names name None = None
numbering_behind names None (Some next) = Some next
numbering_behind names (Some name) (Some next) = Some (next_behind names (slice_get names name.number) next)

-- a name, and the numbering behind it
abbrev pub numbered_name : Option ℕ → Option ℕ → ℕ → List NameText → Option Name → Production
numbered_name start end byte names name tokens rest =
    name_here start byte names name tokens rest × (end ≡ numbering_behind names name start)

-- a parameter at this place
abbrev pub param_at : Option ℕ → ℕ → List NameText → Param → Production
param_at numbering byte names p = ty_here names p.ty >> attributes_here names p.attributes >> name_here numbering byte names p.name

abbrev pub param_here : Option ℕ → List NameText → Param → Production
param_here numbering names p tokens rest = param_at numbering (first_place tokens) names p tokens rest

-- a parameter, and the numbering behind it
abbrev pub numbered_param : Option ℕ → Option ℕ → List NameText → Param → Production
numbered_param start end names p tokens rest = param_here start names p tokens rest × (end ≡ numbering_behind names p.name start)

-- the same behind a comma, 44
abbrev pub next_param : Option ℕ → Option ℕ → List NameText → Param → Production
next_param start end names p = mark 44 >> numbered_param start end names p

-- parameters, each behind a comma, and the numbering behind them
abbrev pub params_behind : Option ℕ → Option ℕ → List NameText → List Param → Production
params_behind start end names [] tokens rest = (end ≡ start) × (tokens ≡ rest)
params_behind start end names (p ∷ ps) tokens rest =
    (mark 44 >> param_here start names p >> params_behind (numbering_behind names p.name start) end names ps) tokens rest

-- one parameter or more, with commas between them
abbrev pub some_params : Option ℕ → Option ℕ → List NameText → List Param → Production
some_params start end names [] tokens rest = ⊥
some_params start end names (p ∷ ps) tokens rest =
    (param_here start names p >> params_behind (numbering_behind names p.name start) end names ps) tokens rest

-- the same, behind which there is no further comma
abbrev pub all_params : Option ℕ → Option ℕ → List NameText → List Param → Production
all_params start end names ps tokens rest = some_params start end names ps tokens rest × EndsNowhere (mark 44) rest

-- the parameters of a function, if there are any, and the `)`, 41, behind them
abbrev pub params_here : Option ℕ → Option ℕ → List NameText → List Param → Production
params_here start end names [] tokens rest = (end ≡ start) × mark 41 tokens rest
params_here start end names (p ∷ ps) tokens rest =
    EndsNowhere (mark 41) tokens × (all_params start end names (p ∷ ps) >> mark 41) tokens rest

-- what a parameter is called that is given no name, and the numbering behind it, by the table that is left and by every longer one
pub record NamesLeftOut (start end : Option ℕ) (byte : ℕ) (found left : List NameText) (name : Option Name) : Type 0 where
  pub extends : Extends found left
  pub named : (longer : List NameText) → Extends left longer → IsLeftOut longer start byte name
  pub numbered : (longer : List NameText) → Extends left longer → end ≡ numbering_behind longer name start

-- a parameter behind a comma that is refused
abbrev pub NextFails : List Lexeme → Refusal → Type 0
NextFails tokens refusal = Begins (mark 44) tokens × next_part.stops tokens refusal
