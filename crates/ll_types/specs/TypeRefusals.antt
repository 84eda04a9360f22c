-- Where and by which rule tokens are refused that are to begin with a type: at the first part of a production that isn't
-- where it is to stand.
use Rattle.std.specs.Prelude.{◌≡◌, ℕ, List, codes, length}
use Rattle.ll_tokens.specs.declared.kinds.TokenKind.TheVariants.{Local as LocalToken}
use Rattle.ll_tokens.specs.Tokens.{Lexeme}
use Rattle.ll_tree.specs.declared.name.NameKind.TheVariants.{Struct as StructName}
use Rattle.ll_tree.specs.declared.name.NameText.{NameText}
use Rattle.ll_tree.specs.declared.ty.LlType.{LlType}
use Rattle.ll_tree.specs.declared.ty.TypeBase.{TypeBase}
use Rattle.ll_parser.specs.declared.refusal.ReadError.{ReadError}
use Rattle.ll_parser.specs.declared.refusal.ReadError.TheVariants.{NoMemory, Refused}
use Rattle.ll_parser.specs.declared.refusal.Refusal.{Refusal}
use Rattle.ll_parser.specs.GrammarTypes.{number, type_base}
use Rattle.ll_parser.specs.NameReading.{DerivesNoneWith, NameFails}
use Rattle.ll_parser.specs.Pointers.{PointersRefused}
use Rattle.ll_parser.specs.Productions.{word, mark}
use Rattle.ll_parser.specs.Reading.{EndsNowhere}
use Rattle.ll_parser.specs.Spaces.{IsNoNumber, IsUnexpected}
use Rattle.ll_parser.specs.WordTypes.{NoWordType}
use Rattle.ll_types.specs.declared.openings.TypeOpening.TheVariants as opening
use Rattle.ll_types.specs.TypeOpenings.{opens}
use Rattle.ll_types.specs.TypeParts.{ty_here, some_types, members}

mutual
  -- a type: `]` is 93, and `>` 62
  pub data TypeFails : List Lexeme → Refusal → Type 0 where
    no_type : {tokens : List Lexeme} {refusal : Refusal} → opens opening.Plain tokens tokens → NoWordType tokens → refusal ≡ record { rule = 3; left = length tokens } → TypeFails tokens refusal
    no_name : {tokens : List Lexeme} {refusal : Refusal} → opens opening.Named tokens tokens → NameFails LocalToken StructName tokens (Refused refusal) → TypeFails tokens refusal
    in_array : {tokens : List Lexeme} {refusal : Refusal} (inside : List Lexeme) → opens opening.Array tokens inside → CountedFails 93 inside refusal → TypeFails tokens refusal
    in_vector : {tokens : List Lexeme} {refusal : Refusal} (inside : List Lexeme) → opens opening.Vector tokens inside → CountedFails 62 inside refusal → TypeFails tokens refusal
    in_struct : {tokens : List Lexeme} {refusal : Refusal} (inside : List Lexeme) → opens opening.Struct tokens inside → MembersFail inside refusal → TypeFails tokens refusal
    in_packed : {tokens : List Lexeme} {refusal : Refusal} (inside : List Lexeme) → opens opening.Packed tokens inside → MembersFail inside refusal → TypeFails tokens refusal
    behind_packed : {tokens : List Lexeme} {refusal : Refusal} (inside behind : List Lexeme) (names : List NameText) (ms : List LlType) → opens opening.Packed tokens inside → members names ms inside behind → IsUnexpected (mark 62) behind refusal → TypeFails tokens refusal
    in_pointers : {tokens : List Lexeme} {refusal : Refusal} (behind : List Lexeme) (names : List NameText) (base : TypeBase) → type_base names base tokens behind → PointersRefused behind refusal → TypeFails tokens refusal

  -- a number, `x`, a type and the bracket that closes them
  pub data CountedFails : ℕ → List Lexeme → Refusal → Type 0 where
    no_count : {close : ℕ} {tokens : List Lexeme} {refusal : Refusal} → IsNoNumber tokens refusal → CountedFails close tokens refusal
    no_times : {close : ℕ} {tokens : List Lexeme} {refusal : Refusal} (behind : List Lexeme) (count : ℕ) → number count tokens behind → IsUnexpected (word (codes "x")) behind refusal → CountedFails close tokens refusal
    no_part : {close : ℕ} {tokens : List Lexeme} {refusal : Refusal} (behind inside : List Lexeme) (count : ℕ) → number count tokens behind → word (codes "x") behind inside → TypeFails inside refusal → CountedFails close tokens refusal
    no_close : {close : ℕ} {tokens : List Lexeme} {refusal : Refusal} (behind inside end : List Lexeme) (count : ℕ) (names : List NameText) (part : LlType) → number count tokens behind → word (codes "x") behind inside → ty_here names part inside end → IsUnexpected (mark close) end refusal → CountedFails close tokens refusal

  -- types with commas, 44, between them, and the `}`, 125, behind them
  pub data MembersFail : List Lexeme → Refusal → Type 0 where
    no_first : {tokens : List Lexeme} {refusal : Refusal} → EndsNowhere (mark 125) tokens → TypeFails tokens refusal → MembersFail tokens refusal
    no_next : {tokens : List Lexeme} {refusal : Refusal} (end behind : List Lexeme) (names : List NameText) (ms : List LlType) → some_types names ms tokens end → mark 44 end behind → TypeFails behind refusal → MembersFail tokens refusal
    no_end : {tokens : List Lexeme} {refusal : Refusal} (end : List Lexeme) (names : List NameText) (ms : List LlType) → some_types names ms tokens end → EndsNowhere (mark 44) end → IsUnexpected (mark 125) end refusal → MembersFail tokens refusal

-- what is told where no type, no counted part, no member and no further one is read
abbrev pub TypeStops : List Lexeme → ReadError → Type 0
TypeStops tokens NoMemory = Unit {0}
TypeStops tokens (Refused refusal) = TypeFails tokens refusal

abbrev pub CountedStops : ℕ → List Lexeme → ReadError → Type 0
CountedStops close tokens NoMemory = Unit {0}
CountedStops close tokens (Refused refusal) = CountedFails close tokens refusal

abbrev pub MembersStop : List Lexeme → ReadError → Type 0
MembersStop tokens NoMemory = Unit {0}
MembersStop tokens (Refused refusal) = MembersFail tokens refusal

abbrev pub NextStops : List Lexeme → ReadError → Type 0
NextStops tokens NoMemory = Unit {0}
NextStops tokens (Refused refusal) = (behind : List Lexeme) × mark 44 tokens behind × TypeFails behind refusal

-- what is told where no type begins the tokens: none is derived from them, whatever the table of names
pub record NoType (tokens : List Lexeme) (refusal : Refusal) : Type 0 where
  pub none : DerivesNoneWith ty_here tokens
  pub place : TypeFails tokens refusal

abbrev pub TypeRefused : List Lexeme → ReadError → Type 0
TypeRefused tokens NoMemory = Unit {0}
TypeRefused tokens (Refused refusal) = NoType tokens refusal
