-- What decides between a packed struct and a vector whose first lane has a struct type.
use Rattle.std.proofs.Common.{◌≡◌, Bool, true, false, not, IsTrue, List, codes, refl, sym, subst, inl, inr, arith}
use Rattle.ll_tokens.specs.Tokens.{Lexeme}
use Rattle.ll_tree.specs.declared.name.NameText.{NameText}
use Rattle.ll_tree.specs.declared.op.CastKind.TheVariants.{Trunc, Zext, Sext, PtrToInt, IntToPtr, Bitcast, AddrSpaceCast}
use Rattle.ll_tree.specs.declared.ty.LlType.{LlType}
use Rattle.ll_parser.specs.declared.refusal.ReadError.{ReadError}
use Rattle.ll_parser.specs.declared.refusal.ReadError.TheVariants.{NoMemory, Refused}
use Rattle.ll_parser.specs.NameReading.{ReadsWith}
use Rattle.ll_parser.specs.Productions.{word, mark}
use Rattle.ll_parser.specs.Reading.{EndsNowhere}
use Rattle.ll_parser.specs.Tables.{Extends}
use Rattle.ll_parser.proofs.SpaceFacts.{mark_leaves_one}
use Rattle.ll_types.specs.TypeParts.{ty_here}
use Rattle.ll_types.specs.TypeRefusals.{TypeFails, TypeRefused}
use Rattle.ll_types.specs.ValueOpenings.{cast_opening}
use Rattle.ll_types.specs.ValueParts.{EndsMember, IsLane, empty, before_end}
use Rattle.ll_types.specs.ValueRefusals.{Unless}
use Rattle.ll_types.proofs.MembersRead.{derived}
use Rattle.ll_types.proofs.OneType.{type_no_brace, type_one}

pub no_cast : (tokens : List Lexeme) → EndsNowhere (word (codes "bitcast")) tokens → EndsNowhere (word (codes "addrspacecast")) tokens → EndsNowhere (word (codes "ptrtoint")) tokens → EndsNowhere (word (codes "inttoptr")) tokens → EndsNowhere cast_opening tokens
no_cast tokens b a p i rest (Trunc, none, w) = none
no_cast tokens b a p i rest (Zext, none, w) = none
no_cast tokens b a p i rest (Sext, none, w) = none
no_cast tokens b a p i rest (PtrToInt, one, w) = p rest w
no_cast tokens b a p i rest (IntToPtr, one, w) = i rest w
no_cast tokens b a p i rest (Bitcast, one, w) = b rest w
no_cast tokens b a p i rest (AddrSpaceCast, one, w) = a rest w

-- a lane or none, by a test
pub record LaneTold (told : Bool) (tokens : List Lexeme) : Type 0 where
  pub there : IsTrue told → IsLane tokens
  pub absent : told ≡ false → IsLane tokens → ⊥

pub holds : (b : Bool) → b ≡ true → IsTrue b
holds b e = grind arith

fails : (b : Bool) → b ≡ false → IsTrue b → ⊥
fails b e h = grind arith

true_no_false : true ≡ false → ⊥
true_no_false e = cc

pub lane_at_brace : (b : Bool) (tokens behind : List Lexeme) → mark 125 tokens behind → (IsTrue b → (rest : List Lexeme) × mark 62 behind rest) → (b ≡ false → EndsNowhere (mark 62) behind) → LaneTold (not b) tokens
lane_at_brace true tokens behind brace there absent = record {
  there = λ h. absurd (fails false refl h);
  absent = λ e lane. none lane;
}
  where
    none : IsLane tokens → ⊥
    none (empty other brace' nowhere) =
        let end : (rest : List Lexeme) × mark 62 behind rest = there (holds true refl) in
        nowhere end.0 (subst (λ ls. mark 62 ls end.0) (mark_leaves_one 125 tokens behind other brace brace') end.1)
    none (before_end names t end one ends) = type_no_brace names t tokens end behind one brace
lane_at_brace false tokens behind brace there absent = record {
  there = λ h. empty behind brace (absent refl);
  absent = λ e. absurd (true_no_false e);
}

pub lane_at_type : (b : Bool) (old new : List NameText) (t : LlType) (tokens end : List Lexeme) → EndsNowhere (mark 125) tokens → ReadsWith ty_here old new t tokens end → (IsTrue b → EndsMember end) → (b ≡ false → EndsMember end → ⊥) → LaneTold b tokens
lane_at_type b old new t tokens end no_brace r there absent = record {
  there = λ h. before_end new t end (derived ty_here old new t tokens end r) (there h);
  absent = λ e lane. none e lane;
}
  where
    none : b ≡ false → IsLane tokens → ⊥
    none e (empty behind brace nowhere) = no_brace behind brace
    none e (before_end names u other one ends) =
        absent e (subst EndsMember (type_one names new u t tokens other end one (derived ty_here old new t tokens end r)) ends)

pub lane_told : (b : Bool) (old new : List NameText) (tokens : List Lexeme) → Extends old new → LaneTold b tokens → Extends old new × (IsTrue b → IsLane tokens) × (b ≡ false → IsLane tokens → ⊥)
lane_told b old new tokens extends told = (extends, told.there, told.absent)

pub lane_refused : (tokens : List Lexeme) (error told : ReadError) → told ≡ error → EndsNowhere (mark 125) tokens → TypeRefused tokens error → Unless (λ refusal. EndsNowhere (mark 125) tokens × TypeFails tokens refusal) told
lane_refused tokens NoMemory told same no_brace r = subst (Unless (λ refusal. EndsNowhere (mark 125) tokens × TypeFails tokens refusal)) (sym same) tt
lane_refused tokens (Refused refusal) told same no_brace r =
    subst (Unless (λ refusal. EndsNowhere (mark 125) tokens × TypeFails tokens refusal)) (sym same) (no_brace, r.place)

pub ends_no_member : (tokens : List Lexeme) → EndsNowhere (mark 44) tokens → EndsNowhere (mark 125) tokens → EndsMember tokens → ⊥
ends_no_member tokens comma brace (rest, inl m) = comma rest m
ends_no_member tokens comma brace (rest, inr m) = brace rest m
