-- Values are refused up to the place alone, and are eaten whatever stands behind them.
use Rattle.std.proofs.Common.{◌≡◌, ℕ, ◌<◌, ◌≤◌, Bool, true, false, List, [], ◌∷◌, codes, refl, subst, inl, Option, arith}
use mathlib.Core.Former.{Count}
use Rattle.ll_tokens.specs.declared.kinds.TokenKind.TheVariants.{Local as LocalToken, Punct}
use Rattle.ll_tokens.specs.Tokens.{Lexeme}
use Rattle.ll_tree.specs.declared.name.NameText.{NameText}
use Rattle.ll_tree.specs.declared.ty.LlType.{LlType}
use Rattle.ll_tree.specs.declared.value.TypedValue.{TypedValue}
use Rattle.ll_tree.specs.declared.value.Value.{Value, Local, Global, Int, Bytes, Bool as Truth, Null, Zero, Undef, Poison, Vector', Array', Struct' as StructValue, Packed', GetElementPtr', Cast', Row_of-TypedValue, end_of-TypedValue, more_of-TypedValue}
use Rattle.ll_parser.specs.declared.refusal.Refusal.{Refusal}
use Rattle.ll_parser.specs.GrammarTypes.{pointer, type_base}
use Rattle.ll_parser.specs.GrammarValues.{IsOfConstants, cast_word, count_of, if_word, only, typed, value, values, values_behind}
use Rattle.ll_parser.specs.Pointers.{NoPointer}
use Rattle.ll_parser.specs.Productions.{◌>>◌, each, each_behind_comma, mark, word}
use Rattle.ll_parser.specs.Reading.{EndsNowhere}
use Rattle.ll_parser.proofs.TokenFacts.{token_leaves_one}
use Rattle.ll_types.specs.declared.openings.TypeOpening.TheVariants.{Packed}
use Rattle.ll_types.specs.SingleValues.{IsSingle, single, single_rule}
use Rattle.ll_types.specs.TypeOpenings.{opens}
use Rattle.ll_types.specs.TypeParts.{ty_here}
use Rattle.ll_types.specs.TypeRefusals.{TypeFails}
use Rattle.ll_types.specs.TypeRefusals as type_fails
use Rattle.ll_types.specs.ValueOpenings.{OpensSingle, cast_opening}
use Rattle.ll_types.specs.ValueParts.{EndsMember, IsLane, all_values, before_end, parts}
use Rattle.ll_types.specs.ValueRefusals.{AngleFails, CastFails, MoreFail, OperandsFail, PartsFail, PathFails, TypedFails, ValueFails, behind_inbounds, behind_packed, in_angle, in_array, in_cast, in_lanes, in_more, in_more_operands, in_operands, in_packed, in_path, in_struct, in_vector, no_cast_close, no_cast_open, no_close, no_end, no_first, no_next, no_open, no_operand, no_single, no_target, no_through, no_to, no_type, no_type_inside, no_value, too_few}
use Rattle.ll_types.proofs.Tokens.{kinds_apart, marks_apart}
use Rattle.ll_operands.specs.Parts.{Begins, Stops, typed_part, value_part}
use Rattle.ll_front_parts.proofs.Fronts.{Behind, IsLocal, Keeps, Sees, Settled, Settles, behind_token, beside_no_mark, first_back, keeps_token, kept_as, one, sees_no_mark, sees_nowhere, sees_token, settled_as, settled_behind, settled_beside, settled_first}
use Rattle.ll_front_parts.proofs.Joins.{keeps_any, keeps_as, keeps_commas, keeps_each, keeps_if, keeps_named, keeps_none, keeps_nothing, keeps_or, keeps_seq, sees_or}
use Rattle.ll_front_parts.proofs.Lanes.{ToldLane, base_lane, end_no_lane, lane_none, next_lane, no_close_angle, no_parts_lane, parts_no_lane, refused_no_angle, sees_told, told_lane, two_lane, type_no_lane, typed_lane, typed_no_lane}
use Rattle.ll_front_parts.proofs.Types.{keeps_base, keeps_pointer, keeps_some, keeps_ty, keeps_type, mark_settles, pointers_settle, sees_no_pointer, type_settles, word_settles}

-- values
module _ (names : List NameText) where
  keeps_if_word : (text : List ℕ) (there : Bool) → Keeps one (if_word text there)
  keeps_if_word text true = keeps_token _ _
  keeps_if_word text false = keeps_nothing one

  mutual
    pub keeps_value : (v : Value) (t : LlType) → Keeps one (value names v t)
    keeps_value (Local name) t = keeps_token _ _
    keeps_value (Global name) t = keeps_token _ _
    keeps_value (Int number) t = keeps_token _ _
    keeps_value (Bytes bytes) t = keeps_token _ _
    keeps_value (Truth true) t = keeps_token _ _
    keeps_value (Truth false) t = keeps_token _ _
    keeps_value Null t = keeps_token _ _
    keeps_value Zero t = keeps_token _ _
    keeps_value Undef t = keeps_token _ _
    keeps_value Poison t = keeps_token _ _
    keeps_value (Vector' shape row) t = keeps_seq one _ _ (keeps_token _ _) (keeps_seq one _ _ (keeps_values row) (keeps_token _ _))
    keeps_value (Array' shape row) t = keeps_seq one _ _ (keeps_token _ _) (keeps_seq one _ _ (keeps_values row) (keeps_token _ _))
    keeps_value (StructValue shape row) t = keeps_seq one _ _ (keeps_token _ _) (keeps_seq one _ _ (keeps_values row) (keeps_token _ _))
    keeps_value (Packed' shape row) t =
        keeps_seq one _ _ (keeps_token _ _) (keeps_seq one _ _ (keeps_token _ _)
        (keeps_seq one _ _ (keeps_values row) (keeps_seq one _ _ (keeps_token _ _) (keeps_token _ _))))
    keeps_value (GetElementPtr' inbounds through shape row) t =
        keeps_seq one _ _ (keeps_token _ _) (keeps_seq one _ _ (keeps_if_word (codes "inbounds") inbounds)
        (keeps_seq one _ _ (keeps_token _ _) (keeps_seq one _ _ (keeps_ty names through)
        (keeps_seq one (only (2 ≤ count_of row) (values_behind names row)) (mark 41)
        (keeps_if one (2 ≤ count_of row) (values_behind names row) (keeps_values_behind row)) (keeps_token _ _)))))
    keeps_value (Cast' kind shape row to) t =
        keeps_seq one (only (IsOfConstants kind) (word (cast_word kind))) _ (keeps_if one (IsOfConstants kind) (word (cast_word kind)) (keeps_token _ _))
        (keeps_seq one _ _ (keeps_token _ _) (keeps_seq one _ _ (keeps_values row)
        (keeps_seq one _ _ (keeps_token _ _) (keeps_seq one _ _ (keeps_ty names to) (keeps_token _ _)))))

    keeps_values : {k : Count} (row : Row_of-TypedValue k) → Keeps one (values names row)
    keeps_values end_of-TypedValue = keeps_nothing one
    keeps_values (more_of-TypedValue t v row) = keeps_seq one _ _ (keeps_ty names t) (keeps_seq one _ _ (keeps_value v t) (keeps_values_behind row))

    keeps_values_behind : {k : Count} (row : Row_of-TypedValue k) → Keeps one (values_behind names row)
    keeps_values_behind end_of-TypedValue = keeps_nothing one
    keeps_values_behind (more_of-TypedValue t v row) =
        keeps_seq one _ _ (keeps_token _ _) (keeps_seq one _ _ (keeps_ty names t) (keeps_seq one _ _ (keeps_value v t) (keeps_values_behind row)))

  pub keeps_typed : (v : TypedValue) → Keeps one (typed names v)
  keeps_typed v = keeps_seq one _ _ (keeps_ty names v.ty) (keeps_value v.value v.ty)

  keeps_more : (vs : List TypedValue) → Keeps one (each_behind_comma (typed names) vs)
  keeps_more vs = keeps_commas (typed names) keeps_typed vs

  keeps_all : (vs : List TypedValue) → Keeps one (all_values names vs)
  keeps_all [] = keeps_nothing one
  keeps_all (v ∷ vs) = keeps_seq one (typed names v) (each_behind_comma (typed names) vs) (keeps_typed v) (keeps_more vs)

  keeps_parts : (close : ℕ) (vs : List TypedValue) → Keeps one (parts close names vs)
  keeps_parts close vs = keeps_seq one (all_values names vs) (mark close) (keeps_all vs) (keeps_token _ _)

  -- values of one token
  sees_single : (t : LlType) (v : Value) → IsSingle v → Sees one (Begins (value names v t))
  sees_single t (Local name) is = sees_token _ _
  sees_single t (Global name) is = sees_token _ _
  sees_single t (Int number) is = sees_token _ _
  sees_single t (Bytes bytes) is = sees_token _ _
  sees_single t (Truth true) is = sees_token _ _
  sees_single t (Truth false) is = sees_token _ _
  sees_single t Null is = sees_token _ _
  sees_single t Zero is = sees_token _ _
  sees_single t Undef is = sees_token _ _
  sees_single t Poison is = sees_token _ _
  sees_single t (Vector' shape row) is = absurd is
  sees_single t (Array' shape row) is = absurd is
  sees_single t (StructValue shape row) is = absurd is
  sees_single t (Packed' shape row) is = absurd is
  sees_single t (GetElementPtr' inbounds through shape row) is = absurd is
  sees_single t (Cast' kind shape row to) is = absurd is

pub sees_cast : Sees one (Begins cast_opening)
sees_cast a b same (rest, (kind, is, w)) = let found = sees_token _ _ a b same (rest, w) in (found.0, (kind, is, found.1))

keeps_cast : Keeps one cast_opening
keeps_cast =
    keeps_as one (λ ts rest d. (d.0, d.1.0, d.1.1)) (λ ts rest d. (d.0, (d.1, d.2)))
    (keeps_any one (λ kind tokens rest. IsOfConstants kind × word (cast_word kind) tokens rest)
    (λ kind. keeps_if one (IsOfConstants kind) (word (cast_word kind)) (keeps_token _ _)))

keeps_inbounds : Keeps one behind_inbounds
keeps_inbounds =
    keeps_or one (word (codes "inbounds")) (λ tokens rest. (tokens ≡ rest) × EndsNowhere (word (codes "inbounds")) tokens) (keeps_token _ _)
    (keeps_none one (EndsNowhere (word (codes "inbounds"))) (sees_nowhere one (word (codes "inbounds")) (sees_token _ _)))

-- nothing but a value of one token may begin, and none does
abbrev OpensOne : LlType → List Lexeme → Type 0
OpensOne t tokens = OpensSingle tokens × ((names : List NameText) (v : Value) (rest : List Lexeme) → single t names v tokens rest → ⊥)

sees_opens : (t : LlType) → Sees one (OpensOne t)
sees_opens t a b same (o, none) = (
  record {
    no_array = sees_no_mark 91 a b same o.no_array;
    no_angle = sees_no_mark 60 a b same o.no_angle;
    no_brace = sees_no_mark 123 a b same o.no_brace;
    no_path = sees_nowhere one (word (codes "getelementptr")) (sees_token _ _) a b same o.no_path;
    no_cast = sees_nowhere one cast_opening sees_cast a b same o.no_cast;
  },
  λ names v rest d. sees_nowhere one (value names v t) (sees_single names t v d.0) a b same (λ rest' e. none names v rest' (d.0, e)) rest d.1,
)

-- what stands behind `<`, which is a `{`
abbrev AngleStops : Stops
AngleStops tokens refusal = (inside : List Lexeme) × mark 123 tokens inside × AngleFails tokens inside refusal

-- a refusal of what begins with a `{`
beside_brace : {stops : Stops} {tokens : List Lexeme} {refusal : Refusal} (inside : List Lexeme) → mark 123 tokens inside → Settled stops tokens refusal → Settled (λ ts r. Begins (mark 123) ts × stops ts r) tokens refusal
beside_brace inside brace s = settled_beside (Begins (mark 123)) (sees_token _ _) (inside, brace) s

behind_brace : {stops : Stops} {tokens : List Lexeme} {refusal : Refusal} (inside : List Lexeme) → mark 123 tokens inside → Settled stops inside refusal → Settled (Behind (mark 123) stops) tokens refusal
behind_brace {stops} {tokens} inside brace s = behind_token brace s

sees_no_member : Sees one (λ tokens. EndsMember tokens → ⊥)
sees_no_member a b same none ends = none (sees_or one (mark 44) (mark 125) (sees_token _ _) (sees_token _ _) b a (first_back a b same) ends)

no_packed : (tokens inside i : List Lexeme) → mark 123 tokens inside → opens Packed tokens i → ⊥
unfolding ◌>>◌
no_packed tokens inside i brace (m, angle, _) = marks_apart 60 123 tokens m inside (λ e. omega arith) angle brace

-- where no type of a first lane is read
type_lane_settles : (tokens inside : List Lexeme) (refusal : Refusal) → mark 123 tokens inside → IsLane inside → TypeFails tokens refusal → 0 < refusal.left → Settled AngleStops tokens refusal
type_lane_settles tokens inside refusal brace lane (type_fails.no_type o nowhere is) less = absurd (o.1.no_brace inside brace)
type_lane_settles tokens inside refusal brace lane (type_fails.no_name o fails) less =
    absurd (kinds_apart LocalToken Punct _ _ tokens o.1.0 inside (λ e. cc) o.1.1 brace)
type_lane_settles tokens inside refusal brace lane (type_fails.in_array i o fails) less = absurd (marks_apart 91 123 tokens i inside (λ e. omega arith) o brace)
type_lane_settles tokens inside refusal brace lane (type_fails.in_vector i o fails) less = absurd (marks_apart 60 123 tokens i inside (λ e. omega arith) o.0 brace)
type_lane_settles tokens inside refusal brace lane (type_fails.in_packed i o fails) less = absurd (no_packed tokens inside i brace o)
type_lane_settles tokens inside refusal brace lane (type_fails.behind_packed i b names ms o d unexpected) less = absurd (no_packed tokens inside i brace o)
type_lane_settles tokens inside refusal brace lane (type_fails.in_pointers b names base d refused) less =
    settled_as
    (λ ts r s. (
      s.0.0,
      s.0.1,
      in_lanes (base_lane names base ts s.0.0 s.1.0 s.1.1 s.0.1 (inl (refused_no_angle s.1.0 r s.1.2)))
          (no_first (no_close_angle ts s.0.0 s.0.1) (no_type (type_fails.in_pointers s.1.0 names base s.1.1 s.1.2))),
    ))
    (beside_brace inside brace (settled_behind (keeps_base names base) d (pointers_settle b refusal refused less)))
type_lane_settles tokens inside refusal brace lane (type_fails.in_struct i m (type_fails.no_first nowhere fails)) less =
    absurd (lane_none i refusal nowhere fails (subst IsLane (token_leaves_one _ _ _ tokens inside i brace m) lane))
type_lane_settles tokens inside refusal brace lane (type_fails.in_struct i m (type_fails.no_next end b names [] some comma fails)) less = absurd some
type_lane_settles tokens inside refusal brace lane (type_fails.in_struct i m (type_fails.no_next end b names (t ∷ ts) some comma fails)) less =
    settled_as
    (λ ts' r s. (
      s.0,
      s.1,
      in_lanes (next_lane names t ts s.0 s.2.0 s.2.2.0 s.2.1 s.2.2.1)
          (no_first (no_close_angle ts' s.0 s.1) (no_type (type_fails.in_struct s.0 s.1 (type_fails.no_next s.2.0 s.2.2.0 names (t ∷ ts) s.2.1 s.2.2.1 s.2.2.2)))),
    ))
    (behind_brace i m (settled_behind (keeps_some names (t ∷ ts)) some (behind_token comma (type_settles b refusal fails less))))
type_lane_settles tokens inside refusal brace lane (type_fails.in_struct i m (type_fails.no_end end names [] some no_comma unexpected)) less = absurd some
type_lane_settles tokens inside refusal brace lane (type_fails.in_struct i m (type_fails.no_end end names (t ∷ []) some no_comma unexpected)) less =
    absurd (end_no_lane names t i end some no_comma unexpected.0 (subst IsLane (token_leaves_one _ _ _ tokens inside i brace m) lane))
type_lane_settles tokens inside refusal brace lane (type_fails.in_struct i m (type_fails.no_end end names (t ∷ u ∷ us) some no_comma unexpected)) less =
    settled_as
    (λ ts r s. (
      s.0,
      s.1,
      in_lanes (two_lane names t u us s.0 s.2.0 s.2.1)
          (no_first (no_close_angle ts s.0 s.1) (no_type (type_fails.in_struct s.0 s.1 (type_fails.no_end s.2.0 names (t ∷ u ∷ us) s.2.1 s.2.2.0 s.2.2.1)))),
    ))
    (behind_brace i m (settled_behind (keeps_some names (t ∷ u ∷ us)) some (beside_no_mark 44 no_comma (mark_settles 125 end refusal unexpected less))))

-- a type, apart and together
type_apart : (names : List NameText) (t : LlType) (tokens rest : List Lexeme) → ty_here names t tokens rest → (m : List Lexeme) × type_base names t.base tokens m × each pointer t.pointers m rest × NoPointer rest
unfolding ◌>>◌
type_apart names t tokens rest ((m, base, ps), none) = (m, base, ps, none)

type_joined : (names : List NameText) (t : LlType) (tokens m rest : List Lexeme) → type_base names t.base tokens m → each pointer t.pointers m rest → NoPointer rest → ty_here names t tokens rest
unfolding ◌>>◌
type_joined names t tokens m rest base ps none = ((m, base, ps), none)

mutual
  value_settles : (t : LlType) → Settles (ValueFails t)
  value_settles t tokens refusal (no_single o refused) less =
      settled_as (λ ts r s. no_single s.0.0 (s.0.1, s.1))
      (settled_first (OpensOne t) single_rule (sees_opens t) (λ l a b. refl) tokens refusal ((o, refused.0), refused.1) less)
  value_settles t tokens refusal (in_array inside m fails) less =
      settled_as (λ ts r s. in_array s.0 s.1 s.2) (behind_token m (parts_settle 93 inside refusal fails less))
  value_settles t tokens refusal (in_struct inside m fails) less =
      settled_as (λ ts r s. in_struct s.0 s.1 s.2) (behind_brace inside m (parts_settle 125 inside refusal fails less))
  value_settles t tokens refusal (in_vector inside m nowhere fails) less =
      settled_as (λ ts r s. in_vector s.0 s.1 s.2.0 s.2.1)
      (behind_token m (beside_no_mark 123 nowhere (parts_settle 62 inside refusal fails less)))
  value_settles t tokens refusal (in_angle b inside m brace fails) less =
      settled_as (λ ts r s. in_angle s.0 s.2.0 s.1 s.2.1 s.2.2) (behind_token m (angle_settles b inside refusal brace fails less))
  value_settles t tokens refusal (in_path b w fails) less = settled_as (λ ts r s. in_path s.0 s.1 s.2) (behind_token w (path_settles b refusal fails less))
  value_settles t tokens refusal (in_cast b o fails) less =
      settled_as (λ ts r s. in_cast s.0 s.1 s.2) (settled_behind keeps_cast o (cast_settles b refusal fails less))

  typed_settles : Settles TypedFails
  typed_settles tokens refusal (no_type fails) less = settled_as (λ ts r s. no_type s) (type_settles tokens refusal fails less)
  typed_settles tokens refusal (no_value names t b d fails) less =
      settled_as (λ ts r s. no_value names t s.0 s.1 s.2) (settled_behind (keeps_type names t) d (value_settles t b refusal fails less))

  more_settle : Settles MoreFail
  more_settle tokens refusal (no_next names vs end b d comma fails) less =
      settled_as (λ ts r s. no_next names vs s.0 s.2.0 s.1 s.2.1 s.2.2)
      (settled_behind (keeps_more names vs) d (behind_token comma (typed_settles b refusal fails less)))

  parts_settle : (close : ℕ) → Settles (PartsFail close)
  parts_settle close tokens refusal (no_first nowhere fails) less =
      settled_as (λ ts r s. no_first s.0 s.1) (beside_no_mark close nowhere (typed_settles tokens refusal fails less))
  parts_settle close tokens refusal (in_more names v b d fails) less =
      settled_as (λ ts r s. in_more names v s.0 s.1 s.2) (settled_behind (keeps_typed names v) d (more_settle b refusal fails less))
  parts_settle close tokens refusal (no_end names other v vs b end d more no_comma unexpected) less =
      settled_as (λ ts r s. no_end names other v vs s.0 s.2.0 s.1 s.2.1 s.2.2.0 s.2.2.1)
      (settled_behind (keeps_typed names v) d (settled_behind (keeps_more other vs) more
      (beside_no_mark 44 no_comma (mark_settles close end refusal unexpected less))))

  lanes_settle : (tokens inside : List Lexeme) (refusal : Refusal) → mark 123 tokens inside → IsLane inside → PartsFail 62 tokens refusal → 0 < refusal.left → Settled AngleStops tokens refusal
  lanes_settle tokens inside refusal brace lane (no_first nowhere (no_type fails)) less = type_lane_settles tokens inside refusal brace lane fails less
  lanes_settle tokens inside refusal brace lane (no_first nowhere (no_value names t b d fails)) less =
      let whole : (c : List Lexeme) × type_base names t.base tokens c × each pointer t.pointers c b × NoPointer b = type_apart names t tokens b d in
      settled_as
      (λ ts r s. (
        s.0.0,
        s.0.1,
        in_lanes (base_lane names t.base ts s.0.0 s.1.0 s.1.1 s.0.1 s.1.2.0)
            (no_first (no_close_angle ts s.0.0 s.0.1) (no_value names t s.1.2.1.0 (type_joined names t ts s.1.0 s.1.2.1.0 s.1.1 s.1.2.1.1 s.1.2.1.2.0) s.1.2.1.2.1)),
      ))
      (beside_brace inside brace (settled_behind (keeps_base names t.base) whole.1
      (settled_beside (ToldLane t.base) (sees_told t.base) (told_lane names t.base tokens inside whole.0 whole.1 brace lane)
      (settled_behind (keeps_each pointer keeps_pointer t.pointers) whole.2
      (settled_beside NoPointer sees_no_pointer whole.3 (value_settles t b refusal fails less))))))
  lanes_settle tokens inside refusal brace lane (in_more names v b d fails) less =
      settled_as (λ ts r s. (s.0.0, s.0.1, in_lanes (typed_lane names v ts s.0.0 s.1.0 s.1.1 s.0.1) (in_more names v s.1.0 s.1.1 s.1.2)))
      (beside_brace inside brace (settled_behind (keeps_typed names v) d (more_settle b refusal fails less)))
  lanes_settle tokens inside refusal brace lane (no_end names other v vs b end d more no_comma unexpected) less =
      settled_as (λ ts r s. (
        s.0.0,
        s.0.1,
        in_lanes (typed_lane names v ts s.0.0 s.1.0 s.1.1 s.0.1)
            (no_end names other v vs s.1.0 s.1.2.0 s.1.1 s.1.2.1 s.1.2.2.0 s.1.2.2.1),
      ))
      (beside_brace inside brace (settled_behind (keeps_typed names v) d (settled_behind (keeps_more other vs) more
      (beside_no_mark 44 no_comma (mark_settles 62 end refusal unexpected less)))))

  packed_settles : (tokens inside : List Lexeme) (refusal : Refusal) → mark 123 tokens inside → (IsLane inside → ⊥) → PartsFail 125 inside refusal → 0 < refusal.left → Settled AngleStops tokens refusal
  packed_settles tokens inside refusal brace no_lane (no_first nowhere (no_type fails)) less =
      settled_as (λ ts r s. (s.0, s.1, in_packed (lane_none s.0 r s.2.0 s.2.1) (no_first s.2.0 (no_type s.2.1))))
      (behind_brace inside brace (beside_no_mark 125 nowhere (type_settles inside refusal fails less)))
  packed_settles tokens inside refusal brace no_lane (no_first nowhere (no_value names t b d fails)) less =
      settled_as (λ ts r s. (s.0, s.1, in_packed (type_no_lane names t s.0 s.2.1.0 s.2.1.1 s.2.1.2.0) (no_first s.2.0 (no_value names t s.2.1.0 s.2.1.1 s.2.1.2.1))))
      (behind_brace inside brace (beside_no_mark 125 nowhere (settled_behind (keeps_type names t) d
      (settled_beside (λ ts. EndsMember ts → ⊥) sees_no_member (λ ends. no_lane (before_end names t b d ends)) (value_settles t b refusal fails less)))))
  packed_settles tokens inside refusal brace no_lane (in_more names v b d fails) less =
      settled_as (λ ts r s. (s.0, s.1, in_packed (typed_no_lane names v s.0 s.2.0 s.2.1) (in_more names v s.2.0 s.2.1 s.2.2)))
      (behind_brace inside brace (settled_behind (keeps_typed names v) d (more_settle b refusal fails less)))
  packed_settles tokens inside refusal brace no_lane (no_end names other v vs b end d more no_comma unexpected) less =
      settled_as (λ ts r s. (s.0, s.1, in_packed (typed_no_lane names v s.0 s.2.0 s.2.1) (no_end names other v vs s.2.0 s.2.2.0 s.2.1 s.2.2.1 s.2.2.2.0 s.2.2.2.1)))
      (behind_brace inside brace (settled_behind (keeps_typed names v) d (settled_behind (keeps_more other vs) more
      (beside_no_mark 44 no_comma (mark_settles 125 end refusal unexpected less)))))

  angle_settles : (tokens inside : List Lexeme) (refusal : Refusal) → mark 123 tokens inside → AngleFails tokens inside refusal → 0 < refusal.left → Settled AngleStops tokens refusal
  angle_settles tokens inside refusal brace (no_type_inside nowhere fails) less =
      settled_as (λ ts r s. (s.0, s.1, no_type_inside s.2.0 s.2.1))
      (behind_brace inside brace (beside_no_mark 125 nowhere (type_settles inside refusal fails less)))
  angle_settles tokens inside refusal brace (in_lanes lane fails) less = lanes_settle tokens inside refusal brace lane fails less
  angle_settles tokens inside refusal brace (in_packed no_lane fails) less = packed_settles tokens inside refusal brace no_lane fails less
  angle_settles tokens inside refusal brace (behind_packed names [] b no_lane d unexpected) less = absurd (no_lane (no_parts_lane names inside b d unexpected.0))
  angle_settles tokens inside refusal brace (behind_packed names (v ∷ vs) b no_lane d unexpected) less =
      settled_as (λ ts r s. (s.0, s.1, behind_packed names (v ∷ vs) s.2.0 (parts_no_lane names v vs s.0 s.2.0 s.2.1) s.2.1 s.2.2))
      (behind_brace inside brace (settled_behind (keeps_parts names 125 (v ∷ vs)) d (mark_settles 62 b refusal unexpected less)))

  path_settles : Settles PathFails
  path_settles tokens refusal (no_open bracket i unexpected) less =
      settled_as (λ ts r s. no_open s.0 s.1 s.2) (settled_behind keeps_inbounds i (mark_settles 40 bracket refusal unexpected less))
  path_settles tokens refusal (no_through bracket inside i m fails) less =
      settled_as (λ ts r s. no_through s.0 s.2.0 s.1 s.2.1 s.2.2)
      (settled_behind keeps_inbounds i (behind_token m (type_settles inside refusal fails less)))
  path_settles tokens refusal (in_operands names t bracket inside b i m d fails) less =
      settled_as (λ ts r s. in_operands names t s.0 s.2.0 s.2.2.0 s.1 s.2.1 s.2.2.1 s.2.2.2)
      (settled_behind keeps_inbounds i (behind_token m (settled_behind (keeps_type names t) d (operands_settle b refusal fails less))))

  operands_settle : Settles OperandsFail
  operands_settle tokens refusal (in_more_operands fails) less = settled_as (λ ts r s. in_more_operands s) (more_settle tokens refusal fails less)
  operands_settle tokens refusal (too_few names vs end few d unexpected) less =
      settled_as (λ ts r s. too_few names vs s.0 few s.1 s.2) (settled_behind (keeps_more names vs) d (mark_settles 44 end refusal unexpected less))
  operands_settle tokens refusal (no_close names vs end enough d no_comma unexpected) less =
      settled_as (λ ts r s. no_close names vs s.0 enough s.1 s.2.0 s.2.1)
      (settled_behind (keeps_more names vs) d (beside_no_mark 44 no_comma (mark_settles 41 end refusal unexpected less)))

  cast_settles : Settles CastFails
  cast_settles tokens refusal (no_cast_open unexpected) less = settled_as (λ ts r s. no_cast_open s) (mark_settles 40 tokens refusal unexpected less)
  cast_settles tokens refusal (no_operand inside m fails) less =
      settled_as (λ ts r s. no_operand s.0 s.1 s.2) (behind_token m (typed_settles inside refusal fails less))
  cast_settles tokens refusal (no_to names v inside b m d unexpected) less =
      settled_as (λ ts r s. no_to names v s.0 s.2.0 s.1 s.2.1 s.2.2)
      (behind_token m (settled_behind (keeps_typed names v) d (word_settles (codes "to") b refusal unexpected less)))
  cast_settles tokens refusal (no_target names v inside b target m d w fails) less =
      settled_as (λ ts r s. no_target names v s.0 s.2.0 s.2.2.0 s.1 s.2.1 s.2.2.1 s.2.2.2)
      (behind_token m (settled_behind (keeps_typed names v) d (behind_token w (type_settles target refusal fails less))))
  cast_settles tokens refusal (no_cast_close names other v t inside b target end m d w e unexpected) less =
      settled_as (λ ts r s. no_cast_close names other v t s.0 s.2.0 s.2.2.0 s.2.2.2.0 s.1 s.2.1 s.2.2.1 s.2.2.2.1 s.2.2.2.2)
      (behind_token m (settled_behind (keeps_typed names v) d (behind_token w
      (settled_behind (keeps_type other t) e (mark_settles 41 end refusal unexpected less)))))

-- the parts
pub local_typed : IsLocal one typed_part
local_typed = record {
  keeps = keeps_named typed keeps_typed;
  settles = typed_settles;
}

pub local_value : (width : Option ℕ) → IsLocal one (value_part width)
local_value width = record {
  keeps = record { keeps = λ tokens rest d. kept_as ((keeps_value d.2.0 d.2.1 d.0).keeps tokens rest d.2.2) (λ ts other same e. (d.0, d.1, (d.2.0, d.2.1, e))) };
  settles = λ tokens refusal d less. settled_as (λ ts r s. (d.0, d.1, s)) (value_settles d.0 tokens refusal d.2 less);
}
