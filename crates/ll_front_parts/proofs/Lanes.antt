-- Behind `<{` a lane of a vector goes on or a packed struct: what the tokens up to the place of a refusal say of it.
use Rattle.std.proofs.Common.{ℕ, ◌⊎◌, List, [], ◌∷◌, refl, sym, subst, inl, inr, arith}
use mathlib.Core.Former.{Count}
use Rattle.ll_tokens.specs.declared.kinds.TokenKind.TheVariants.{Local as LocalToken, Punct, Word}
use Rattle.ll_tokens.specs.Tokens.{Lexeme}
use Rattle.ll_tree.specs.declared.name.NameText.{NameText}
use Rattle.ll_tree.specs.declared.ty.LlType.{LlType}
use Rattle.ll_tree.specs.declared.ty.TypeBase.{TypeBase, Void, Int as IntType, Half, Float, Double, Named, Array' as ArrayType, Vector' as VectorType, Struct', Packed' as PackedType, Row_of-LlType, end_of-LlType, more_of-LlType}
use Rattle.ll_tree.specs.declared.value.TypedValue.{TypedValue}
use Rattle.ll_parser.specs.declared.refusal.Refusal.{Refusal}
use Rattle.ll_parser.specs.GrammarTypes.{pointer, type_base, types}
use Rattle.ll_parser.specs.GrammarValues.{typed, value}
use Rattle.ll_parser.specs.Pointers.{PointersRefused}
use Rattle.ll_parser.specs.Productions.{◌>>◌, each, mark}
use Rattle.ll_parser.specs.Reading.{EndsNowhere}
use Rattle.ll_parser.proofs.PointerFacts.{pointer_begins}
use Rattle.ll_parser.proofs.TokenFacts.{token_leaves_one}
use Rattle.ll_types.specs.declared.openings.TypeOpening.TheVariants.{Struct}
use Rattle.ll_types.specs.TypeParts.{members, some_types, ty_here}
use Rattle.ll_types.specs.TypeRefusals.{TypeFails}
use Rattle.ll_types.specs.ValueParts.{EndsMember, IsLane, before_end, empty, parts}
use Rattle.ll_types.proofs.NoTypes.{none_type}
use Rattle.ll_types.proofs.OneType.{type_no_brace, type_one}
use Rattle.ll_types.proofs.OneValue.{typed_apart}
use Rattle.ll_types.proofs.Tokens.{kinds_apart, mark_no_pointer, marks_apart}
use Rattle.ll_types.proofs.TypeOpened.{behind_known, type_no_mark}
use Rattle.ll_types.proofs.ValueForms.{value_no_mark}
use Rattle.ll_front_parts.proofs.Fronts.{Sees, one, sees_no_mark}

-- behind `<{`: the types of some members, and what stands behind the first one
members_lane : (names : List NameText) (t : LlType) (ts : List LlType) (tokens rest : List Lexeme) → members names (t ∷ ts) tokens rest → IsLane tokens
unfolding ◌>>◌
members_lane names t [] tokens rest (e, (b, d, same), close) = before_end names t b d (rest, inr (subst (λ ls. mark 125 ls rest) (sym same) close))
members_lane names t (u ∷ us) tokens rest (e, (b, d, (c, comma, _)), close) = before_end names t b d (c, inl comma)

pub next_lane : (names : List NameText) (t : LlType) (ts : List LlType) (tokens end rest : List Lexeme) → some_types names (t ∷ ts) tokens end → mark 44 end rest → IsLane tokens
unfolding ◌>>◌
next_lane names t [] tokens end rest (b, d, same) comma = before_end names t b d (rest, inl (subst (λ ls. mark 44 ls rest) (sym same) comma))
next_lane names t (u ∷ us) tokens end rest (b, d, (c, comma, _)) _ = before_end names t b d (c, inl comma)

pub two_lane : (names : List NameText) (t u : LlType) (us : List LlType) (tokens end : List Lexeme) → some_types names (t ∷ u ∷ us) tokens end → IsLane tokens
unfolding ◌>>◌
two_lane names t u us tokens end (b, d, (c, comma, _)) = before_end names t b d (c, inl comma)

-- one member or more
abbrev IsNonempty : {k : Count} → Row_of-LlType k → Type 0
IsNonempty end_of-LlType = ⊥
IsNonempty (more_of-LlType base pointers row) = Unit {0}

-- a type that is never written as `{` and `}`, 123 and 125
abbrev IsFull : TypeBase → Type 0
IsFull base = (names : List NameText) (tokens inside rest : List Lexeme) → mark 123 tokens inside → type_base names base tokens rest → mark 125 inside rest → ⊥

full_row : {k : Count} (names : List NameText) (row : Row_of-LlType k) (tokens end rest : List Lexeme) → IsNonempty row → types names row tokens end → mark 125 tokens rest → ⊥
unfolding ◌>>◌
full_row names end_of-LlType tokens end rest full d close = full
full_row names (more_of-LlType base pointers row) tokens end rest full (p, d, more) close =
    type_no_mark 125 names base tokens p rest (λ e. omega arith) (λ e. omega arith) (λ e. omega arith) d close

-- what stands behind a struct type says whether a lane goes on
abbrev pub ToldLane : TypeBase → List Lexeme → Type 0
ToldLane base rest = EndsNowhere (mark 62) rest ⊎ IsFull base

pub sees_told : (base : TypeBase) → Sees one (ToldLane base)
sees_told base a b same (inl nowhere) = inl (sees_no_mark 62 a b same nowhere)
sees_told base a b same (inr full) = inr full

pub base_lane : (names : List NameText) (base : TypeBase) (tokens inside rest : List Lexeme) → type_base names base tokens rest → mark 123 tokens inside → ToldLane base rest → IsLane inside
unfolding ◌>>◌
base_lane names base tokens inside rest d brace told = found told (behind_known Struct names base tokens inside rest brace d)
  where
    found : ToldLane base rest → (ms : List LlType) × members names ms inside rest → IsLane inside
    found (inl nowhere) ([], (e, same, close)) = empty rest (subst (λ ls. mark 125 ls rest) (sym same) close) nowhere
    found (inl nowhere) (t ∷ ts, mem) = members_lane names t ts inside rest mem
    found (inr full) ([], (e, same, close)) = absurd (full names tokens inside rest brace d (subst (λ ls. mark 125 ls rest) (sym same) close))
    found (inr full) (t ∷ ts, mem) = members_lane names t ts inside rest mem

told_row : {k : Count} (names : List NameText) (row : Row_of-LlType k) (inside end rest : List Lexeme) → types names row inside end → mark 125 end rest → IsLane inside → EndsNowhere (mark 62) rest ⊎ IsNonempty row
unfolding ◌>>◌
told_row names end_of-LlType inside end rest same close (empty b close' nowhere) =
    inl (subst (EndsNowhere (mark 62)) (token_leaves_one _ _ _ inside b rest close' (subst (λ ls. mark 125 ls rest) (sym same) close)) nowhere)
told_row names end_of-LlType inside end rest same close (before_end other t b d ends) =
    absurd (type_no_brace other t inside b rest d (subst (λ ls. mark 125 ls rest) (sym same) close))
told_row names (more_of-LlType base pointers row) inside end rest d close lane = inr tt

pub told_lane : (names : List NameText) (base : TypeBase) (tokens inside rest : List Lexeme) → type_base names base tokens rest → mark 123 tokens inside → IsLane inside → ToldLane base rest
unfolding ◌>>◌
told_lane names (Struct' shape row) tokens inside rest (a, brace, (e, d, close)) brace' lane =
    told (told_row names row inside e rest (subst (λ ls. types names row ls e) (token_leaves_one _ _ _ tokens a inside brace brace') d) close lane)
  where
    told : EndsNowhere (mark 62) rest ⊎ IsNonempty row → ToldLane (Struct' shape row) rest
    told (inl nowhere) = inl nowhere
    told (inr full) =
        inr (λ other ts k r m (b, m', (f, row_here, _)) close'. full_row other row k f r full
        (subst (λ ls. types other row ls f) (token_leaves_one _ _ _ ts b k m' m) row_here) close')
told_lane names Void tokens inside rest d brace lane = absurd (kinds_apart Word Punct _ _ tokens rest inside (λ e. cc) d brace)
told_lane names (IntType bits) tokens inside rest d brace lane = absurd (kinds_apart Word Punct _ _ tokens rest inside (λ e. cc) d brace)
told_lane names Half tokens inside rest d brace lane = absurd (kinds_apart Word Punct _ _ tokens rest inside (λ e. cc) d brace)
told_lane names Float tokens inside rest d brace lane = absurd (kinds_apart Word Punct _ _ tokens rest inside (λ e. cc) d brace)
told_lane names Double tokens inside rest d brace lane = absurd (kinds_apart Word Punct _ _ tokens rest inside (λ e. cc) d brace)
told_lane names (Named name) tokens inside rest d brace lane = absurd (kinds_apart LocalToken Punct _ _ tokens rest inside (λ e. cc) d brace)
told_lane names (ArrayType count shape part) tokens inside rest (a, m, _) brace lane = absurd (marks_apart 91 123 tokens a inside (λ e. omega arith) m brace)
told_lane names (VectorType count shape part) tokens inside rest (a, m, _) brace lane = absurd (marks_apart 60 123 tokens a inside (λ e. omega arith) m brace)
told_lane names (PackedType shape row) tokens inside rest (a, m, _) brace lane = absurd (marks_apart 60 123 tokens a inside (λ e. omega arith) m brace)

-- a value of a struct type stands behind no `>`, 62, that closes a lane
pub typed_lane : (names : List NameText) (v : TypedValue) (tokens inside rest : List Lexeme) → typed names v tokens rest → mark 123 tokens inside → IsLane inside
unfolding ◌>>◌
typed_lane names v tokens inside rest (b, (c, base, ps), d) brace = base_lane names v.ty.base tokens inside c base brace (inl (no_angle v.ty.pointers ps))
  where
    no_angle : (xs : List ℕ) → each pointer xs c b → EndsNowhere (mark 62) c
    no_angle [] same r close =
        value_no_mark 62 v.ty names v.value b rest r (λ e. omega arith) (λ e. omega arith) (λ e. omega arith) d (subst (λ ls. mark 62 ls r) same close)
    no_angle (x ∷ xs) (k, p, more) r close = pointer_begins x c k p (mark_no_pointer 62 c r (λ e. omega arith) close)

pub refused_no_angle : (tokens : List Lexeme) (refusal : Refusal) → PointersRefused tokens refusal → EndsNowhere (mark 62) tokens
refused_no_angle tokens refusal d rest close = d.none [] tokens (record { pointers = refl; all = mark_no_pointer 62 tokens rest (λ e. omega arith) close })

pub type_no_lane : (names : List NameText) (t : LlType) (tokens rest : List Lexeme) → ty_here names t tokens rest → (EndsMember rest → ⊥) → IsLane tokens → ⊥
type_no_lane names t tokens rest d none (empty b brace _) = type_no_brace names t tokens rest b d brace
type_no_lane names t tokens rest d none (before_end other u b d' ends) = none (subst EndsMember (type_one other names u t tokens b rest d' d) ends)

pub typed_no_lane : (names : List NameText) (v : TypedValue) (tokens rest : List Lexeme) → typed names v tokens rest → IsLane tokens → ⊥
typed_no_lane names v tokens rest d =
    let split : (m : List Lexeme) × ty_here names v.ty tokens m × value names v.value v.ty m rest = typed_apart names v tokens rest d in
    type_no_lane names v.ty tokens split.0 split.1 (none split.0 split.2)
  where
    none : (m : List Lexeme) → value names v.value v.ty m rest → EndsMember m → ⊥
    none m d' (r, inl comma) = value_no_mark 44 v.ty names v.value m rest r (λ e. omega arith) (λ e. omega arith) (λ e. omega arith) d' comma
    none m d' (r, inr brace) = value_no_mark 125 v.ty names v.value m rest r (λ e. omega arith) (λ e. omega arith) (λ e. omega arith) d' brace

pub parts_no_lane : (names : List NameText) (v : TypedValue) (vs : List TypedValue) (tokens rest : List Lexeme) → parts 125 names (v ∷ vs) tokens rest → IsLane tokens → ⊥
unfolding ◌>>◌
parts_no_lane names v vs tokens rest (e, (b, d, more), close) = typed_no_lane names v tokens b d

pub no_parts_lane : (names : List NameText) (tokens rest : List Lexeme) → parts 125 names [] tokens rest → EndsNowhere (mark 62) rest → IsLane tokens
unfolding ◌>>◌
no_parts_lane names tokens rest (e, same, close) nowhere = empty rest (subst (λ ls. mark 125 ls rest) (sym same) close) nowhere

pub end_no_lane : (names : List NameText) (t : LlType) (tokens rest : List Lexeme) → some_types names (t ∷ []) tokens rest → EndsNowhere (mark 44) rest → EndsNowhere (mark 125) rest → IsLane tokens → ⊥
unfolding ◌>>◌
end_no_lane names t tokens rest (b, d, same) no_comma no_brace =
    type_no_lane names t tokens rest (subst (λ ls. ty_here names t tokens ls) same d) none
  where
    none : EndsMember rest → ⊥
    none (r, inl comma) = no_comma r comma
    none (r, inr brace) = no_brace r brace

pub lane_none : (tokens : List Lexeme) (refusal : Refusal) → EndsNowhere (mark 125) tokens → TypeFails tokens refusal → IsLane tokens → ⊥
lane_none tokens refusal nowhere fails (empty b brace _) = nowhere b brace
lane_none tokens refusal nowhere fails (before_end names t end d _) = none_type fails names t end d

pub no_close_angle : (tokens inside : List Lexeme) → mark 123 tokens inside → EndsNowhere (mark 62) tokens
no_close_angle tokens inside brace rest close = marks_apart 123 62 tokens inside rest (λ e. omega arith) brace close
