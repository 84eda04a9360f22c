-- Where and by which rule tokens are refused that are to begin with a value: at the first part of a production that isn't
-- where it is to stand.
use Rattle.std.specs.Prelude.{◌≡◌, ℕ, ◌<◌, ◌≤◌, ◌⊎◌, List, codes, length}
use Rattle.ll_tokens.specs.Tokens.{Lexeme}
use Rattle.ll_tree.specs.declared.name.NameText.{NameText}
use Rattle.ll_tree.specs.declared.ty.LlType.{LlType}
use Rattle.ll_tree.specs.declared.value.TypedValue.{TypedValue}
use Rattle.ll_parser.specs.declared.refusal.ReadError.{ReadError}
use Rattle.ll_parser.specs.declared.refusal.ReadError.TheVariants.{NoMemory, Refused}
use Rattle.ll_parser.specs.declared.refusal.Refusal.{Refusal}
use Rattle.ll_parser.specs.GrammarValues.{typed}
use Rattle.ll_parser.specs.NameReading.{DerivesNoneWith}
use Rattle.ll_parser.specs.Productions.{Production, word, mark, each_behind_comma}
use Rattle.ll_parser.specs.Reading.{EndsNowhere}
use Rattle.ll_parser.specs.Spaces.{IsUnexpected}
use Rattle.ll_types.specs.SingleValues.{SingleRefused}
use Rattle.ll_types.specs.TypeParts.{ty_here}
use Rattle.ll_types.specs.TypeRefusals.{TypeFails}
use Rattle.ll_types.specs.ValueOpenings.{OpensSingle, cast_opening}
use Rattle.ll_types.specs.ValueParts.{IsLane, parts}

-- `inbounds`, where it is there
abbrev pub behind_inbounds : List Lexeme → List Lexeme → Type 0
behind_inbounds tokens rest = word (codes "inbounds") tokens rest ⊎ ((tokens ≡ rest) × EndsNowhere (word (codes "inbounds")) tokens)

mutual
  -- a value of a type: `[` and `]` are 91 and 93, `<` and `>` 60 and 62, `{` and `}` 123 and 125
  pub data ValueFails : LlType → List Lexeme → Refusal → Type 0 where
    no_single : {t : LlType} {tokens : List Lexeme} {refusal : Refusal} → OpensSingle tokens → SingleRefused t tokens (Refused refusal) → ValueFails t tokens refusal
    in_array : {t : LlType} {tokens : List Lexeme} {refusal : Refusal} (inside : List Lexeme) → mark 91 tokens inside → PartsFail 93 inside refusal → ValueFails t tokens refusal
    in_struct : {t : LlType} {tokens : List Lexeme} {refusal : Refusal} (inside : List Lexeme) → mark 123 tokens inside → PartsFail 125 inside refusal → ValueFails t tokens refusal
    in_vector : {t : LlType} {tokens : List Lexeme} {refusal : Refusal} (inside : List Lexeme) → mark 60 tokens inside → EndsNowhere (mark 123) inside → PartsFail 62 inside refusal → ValueFails t tokens refusal
    in_angle : {t : LlType} {tokens : List Lexeme} {refusal : Refusal} (behind inside : List Lexeme) → mark 60 tokens behind → mark 123 behind inside → AngleFails behind inside refusal → ValueFails t tokens refusal
    in_path : {t : LlType} {tokens : List Lexeme} {refusal : Refusal} (behind : List Lexeme) → word (codes "getelementptr") tokens behind → PathFails behind refusal → ValueFails t tokens refusal
    in_cast : {t : LlType} {tokens : List Lexeme} {refusal : Refusal} (behind : List Lexeme) → cast_opening tokens behind → CastFails behind refusal → ValueFails t tokens refusal

  -- a type and a value of it
  pub data TypedFails : List Lexeme → Refusal → Type 0 where
    no_type : {tokens : List Lexeme} {refusal : Refusal} → TypeFails tokens refusal → TypedFails tokens refusal
    no_value : {tokens : List Lexeme} {refusal : Refusal} (names : List NameText) (t : LlType) (behind : List Lexeme) → ty_here names t tokens behind → ValueFails t behind refusal → TypedFails tokens refusal

  -- values behind commas, 44
  pub data MoreFail : List Lexeme → Refusal → Type 0 where
    no_next : {tokens : List Lexeme} {refusal : Refusal} (names : List NameText) (vs : List TypedValue) (end behind : List Lexeme) → each_behind_comma (typed names) vs tokens end → mark 44 end behind → TypedFails behind refusal → MoreFail tokens refusal

  -- values with commas between them, and the mark behind them
  pub data PartsFail : ℕ → List Lexeme → Refusal → Type 0 where
    no_first : {close : ℕ} {tokens : List Lexeme} {refusal : Refusal} → EndsNowhere (mark close) tokens → TypedFails tokens refusal → PartsFail close tokens refusal
    in_more : {close : ℕ} {tokens : List Lexeme} {refusal : Refusal} (names : List NameText) (v : TypedValue) (behind : List Lexeme) → typed names v tokens behind → MoreFail behind refusal → PartsFail close tokens refusal
    no_end : {close : ℕ} {tokens : List Lexeme} {refusal : Refusal} (names other : List NameText) (v : TypedValue) (vs : List TypedValue) (behind end : List Lexeme) → typed names v tokens behind → each_behind_comma (typed other) vs behind end → EndsNowhere (mark 44) end → IsUnexpected (mark close) end refusal → PartsFail close tokens refusal

  -- what stands behind `<`, of which the second list is what stands behind the `{`
  pub data AngleFails : List Lexeme → List Lexeme → Refusal → Type 0 where
    no_type_inside : {tokens inside : List Lexeme} {refusal : Refusal} → EndsNowhere (mark 125) inside → TypeFails inside refusal → AngleFails tokens inside refusal
    in_lanes : {tokens inside : List Lexeme} {refusal : Refusal} → IsLane inside → PartsFail 62 tokens refusal → AngleFails tokens inside refusal
    in_packed : {tokens inside : List Lexeme} {refusal : Refusal} → (IsLane inside → ⊥) → PartsFail 125 inside refusal → AngleFails tokens inside refusal
    behind_packed : {tokens inside : List Lexeme} {refusal : Refusal} (names : List NameText) (vs : List TypedValue) (behind : List Lexeme) → (IsLane inside → ⊥) → parts 125 names vs inside behind → IsUnexpected (mark 62) behind refusal → AngleFails tokens inside refusal

  -- what stands behind `getelementptr`: `(` and `)` are 40 and 41
  pub data PathFails : List Lexeme → Refusal → Type 0 where
    no_open : {tokens : List Lexeme} {refusal : Refusal} (bracket : List Lexeme) → behind_inbounds tokens bracket → IsUnexpected (mark 40) bracket refusal → PathFails tokens refusal
    no_through : {tokens : List Lexeme} {refusal : Refusal} (bracket inside : List Lexeme) → behind_inbounds tokens bracket → mark 40 bracket inside → TypeFails inside refusal → PathFails tokens refusal
    in_operands : {tokens : List Lexeme} {refusal : Refusal} (names : List NameText) (t : LlType) (bracket inside behind : List Lexeme) → behind_inbounds tokens bracket → mark 40 bracket inside → ty_here names t inside behind → OperandsFail behind refusal → PathFails tokens refusal

  -- two operands or more, and the `)` behind them
  pub data OperandsFail : List Lexeme → Refusal → Type 0 where
    in_more_operands : {tokens : List Lexeme} {refusal : Refusal} → MoreFail tokens refusal → OperandsFail tokens refusal
    too_few : {tokens : List Lexeme} {refusal : Refusal} (names : List NameText) (vs : List TypedValue) (end : List Lexeme) → length vs < 2 → each_behind_comma (typed names) vs tokens end → IsUnexpected (mark 44) end refusal → OperandsFail tokens refusal
    no_close : {tokens : List Lexeme} {refusal : Refusal} (names : List NameText) (vs : List TypedValue) (end : List Lexeme) → 2 ≤ length vs → each_behind_comma (typed names) vs tokens end → EndsNowhere (mark 44) end → IsUnexpected (mark 41) end refusal → OperandsFail tokens refusal

  -- what stands behind the word of a conversion
  pub data CastFails : List Lexeme → Refusal → Type 0 where
    no_cast_open : {tokens : List Lexeme} {refusal : Refusal} → IsUnexpected (mark 40) tokens refusal → CastFails tokens refusal
    no_operand : {tokens : List Lexeme} {refusal : Refusal} (inside : List Lexeme) → mark 40 tokens inside → TypedFails inside refusal → CastFails tokens refusal
    no_to : {tokens : List Lexeme} {refusal : Refusal} (names : List NameText) (v : TypedValue) (inside behind : List Lexeme) → mark 40 tokens inside → typed names v inside behind → IsUnexpected (word (codes "to")) behind refusal → CastFails tokens refusal
    no_target : {tokens : List Lexeme} {refusal : Refusal} (names : List NameText) (v : TypedValue) (inside behind target : List Lexeme) → mark 40 tokens inside → typed names v inside behind → word (codes "to") behind target → TypeFails target refusal → CastFails tokens refusal
    no_cast_close : {tokens : List Lexeme} {refusal : Refusal} (names other : List NameText) (v : TypedValue) (t : LlType) (inside behind target end : List Lexeme) → mark 40 tokens inside → typed names v inside behind → word (codes "to") behind target → ty_here other t target end → IsUnexpected (mark 41) end refusal → CastFails tokens refusal

-- what is told where something isn't read: nothing for want of memory
abbrev pub Unless : (Refusal → Type 0) → ReadError → Type 0
Unless fails NoMemory = Unit {0}
Unless fails (Refused refusal) = fails refusal

-- none is derived, whatever the table of names, and where the refusal is
abbrev pub NoneAnd : {A : Type 0} → (List NameText → A → Production) → (List Lexeme → Refusal → Type 0) → List Lexeme → ReadError → Type 0
NoneAnd item fails tokens = Unless (λ refusal. DerivesNoneWith item tokens × fails tokens refusal)
