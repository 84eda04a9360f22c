-- Tokens that are refused for a value begin with none.
use Rattle.std.proofs.Common.{◌≡◌, ℕ, ◌<◌, Bool, true, false, List, [], ◌∷◌, length, codes, refl, sym, ◌∙◌, subst, inl, inr, arith, Result, Ok, Err, MatchResult}
use Rattle.ll_tokens.specs.Tokens.{Lexeme}
use Rattle.ll_tree.specs.declared.name.NameText.{NameText}
use Rattle.ll_tree.specs.declared.ty.LlType.{LlType}
use Rattle.ll_tree.specs.declared.value.TypedValue.{TypedValue}
use Rattle.ll_parser.specs.declared.refusal.ReadError.{ReadError}
use Rattle.ll_parser.specs.declared.refusal.ReadError.TheVariants.{NoMemory, Refused}
use Rattle.ll_parser.specs.declared.refusal.Refusal.{Refusal}
use Rattle.ll_parser.specs.GrammarValues.{if_word, typed, value}
use Rattle.ll_parser.specs.NameReading.{DerivesNoneWith}
use Rattle.ll_parser.specs.Productions.{Production, ◌>>◌, word, mark, each_behind_comma}
use Rattle.ll_parser.specs.Reading.{EndsNowhere}
use Rattle.ll_parser.proofs.PointerFacts.{word_no_mark}
use Rattle.ll_parser.proofs.SpaceFacts.{mark_leaves_one, word_leaves_one}
use Rattle.ll_types.specs.declared.values.Conversion.{Conversion}
use Rattle.ll_types.specs.declared.values.Path.{Path}
use Rattle.ll_types.specs.TypeParts.{ty_here}
use Rattle.ll_types.specs.ValueParts.{IsLane, empty, before_end, conversion, operands, parts, path, value_of}
use Rattle.ll_types.specs.ValueRefusals.{ValueFails, no_single, in_array, in_struct, in_vector, in_angle, in_path, in_cast, TypedFails, no_type, no_value, MoreFail, no_next, PartsFail, no_first, in_more, no_end, AngleFails, no_type_inside, in_lanes, in_packed, behind_packed, PathFails, no_open, no_through, in_operands, OperandsFail, in_more_operands, too_few, no_close, CastFails, no_cast_open, no_operand, no_to, no_target, no_cast_close, behind_inbounds, Unless, NoneAnd}
use Rattle.ll_types.proofs.NoTypes.{none_type}
use Rattle.ll_types.proofs.OneType.{type_one}
use Rattle.ll_types.proofs.OneValue.{Closes, closes_41, closes_62, closes_93, closes_125, lanes_begin, members_no_lane, one_at, parts_one, peel, typed_apart, typed_no_mark, typed_one}
use Rattle.ll_types.proofs.Tokens.{marks_apart}
use Rattle.ll_types.proofs.ValueForms.{arrays, structs, angles, paths, casts, singles, inside_known, lanes_or_members}
use Rattle.ll_types.proofs.Widths.{one_width, retyped}

-- no values behind commas before a closing mark
NoMore : List Lexeme → Type 0
NoMore tokens = (c : ℕ) → Closes c → (names : List NameText) (vs : List TypedValue) (end rest : List Lexeme) → each_behind_comma (typed names) vs tokens end → mark c end rest → ⊥

NoLanes : List Lexeme → Type 0
NoLanes tokens = (names : List NameText) (rest : List Lexeme) → lanes_or_members names tokens rest → ⊥

lanes_at : (tokens : List Lexeme) → NoLanes tokens → (names : List NameText) (rest : List Lexeme) → lanes_or_members names tokens rest → ⊥
unfolding NoLanes
lanes_at tokens none = none

vector_none : (tokens : List Lexeme) → EndsNowhere (mark 123) tokens → DerivesNoneWith (parts 62) tokens → NoLanes tokens
unfolding ◌>>◌ NoLanes
vector_none tokens no_brace none names rest (vs, inl d) = none names vs rest d
vector_none tokens no_brace none names rest (vs, inr (m, brace, more)) = no_brace m brace

typed_none_type : (tokens : List Lexeme) → DerivesNoneWith ty_here tokens → DerivesNoneWith typed tokens
typed_none_type tokens none names v rest d =
    let split : (m : List Lexeme) × ty_here names v.ty tokens m × value names v.value v.ty m rest = typed_apart names v tokens rest d in none names v.ty split.0 split.1

typed_none_value : (names : List NameText) (t : LlType) (tokens behind : List Lexeme) → ty_here names t tokens behind → DerivesNoneWith (value_of t) behind → DerivesNoneWith typed tokens
typed_none_value names t tokens behind one none other v rest d =
    let split : (m : List Lexeme) × ty_here other v.ty tokens m × value other v.value v.ty m rest = typed_apart other v tokens rest d in
    let same : split.0 ≡ behind = type_one other names v.ty t tokens split.0 behind split.1 one in
    none other v.value rest (retyped other v.value v.ty t behind rest (one_width other names v.ty t tokens split.0 behind split.1 one) (subst (λ ls. value other v.value v.ty ls rest) same split.2))

next_none : (other : List NameText) (more : List TypedValue) (c : ℕ) (end behind last rest : List Lexeme) → Closes c → mark 44 end behind → DerivesNoneWith typed behind → each_behind_comma (typed other) more end last → mark c last rest → ⊥
unfolding ◌>>◌
next_none other [] c end behind last rest closes comma none same close = marks_apart 44 c end behind rest closes.no_comma comma (subst (λ ls. mark c ls rest) (sym same) close)
next_none other (w ∷ ws) c end behind last rest closes comma none (a, comma', (b, d, more)) close =
    none other w b (subst (λ ls. typed other w ls b) (mark_leaves_one 44 end a behind comma' comma) d)

none_next : (names : List NameText) (vs : List TypedValue) (tokens end behind : List Lexeme) → each_behind_comma (typed names) vs tokens end → mark 44 end behind → DerivesNoneWith typed behind → NoMore tokens
unfolding NoMore
none_next names vs tokens end behind d comma none c closes other ws last rest e close =
    let left : (more : List TypedValue) × each_behind_comma (typed other) more end last = peel (length tokens) (one_at _) c closes names other vs ws tokens end last rest (omega arith) d e close in
    next_none other left.0 c end behind last rest closes comma none left.1 close

end_none : (other : List NameText) (more : List TypedValue) (c : ℕ) (end last rest : List Lexeme) → EndsNowhere (mark 44) end → EndsNowhere (mark c) end → each_behind_comma (typed other) more end last → mark c last rest → ⊥
unfolding ◌>>◌
end_none other [] c end last rest no_comma nowhere same close = nowhere rest (subst (λ ls. mark c ls rest) (sym same) close)
end_none other (w ∷ ws) c end last rest no_comma nowhere (a, comma, more) close = no_comma a comma

none_behind : (names : List NameText) (vs : List TypedValue) (c : ℕ) (tokens end : List Lexeme) → Closes c → each_behind_comma (typed names) vs tokens end → EndsNowhere (mark 44) end → EndsNowhere (mark c) end → (other : List NameText) (ws : List TypedValue) (last rest : List Lexeme) → each_behind_comma (typed other) ws tokens last → mark c last rest → ⊥
none_behind names vs c tokens end closes d no_comma nowhere other ws last rest e close =
    let left : (more : List TypedValue) × each_behind_comma (typed other) more end last = peel (length tokens) (one_at _) c closes names other vs ws tokens end last rest (omega arith) d e close in
    end_none other left.0 c end last rest no_comma nowhere left.1 close

parts_none_first : (c : ℕ) (tokens : List Lexeme) → EndsNowhere (mark c) tokens → DerivesNoneWith typed tokens → DerivesNoneWith (parts c) tokens
unfolding ◌>>◌
parts_none_first c tokens nowhere none names [] rest (m, same, close) = nowhere rest (subst (λ ls. mark c ls rest) (sym same) close)
parts_none_first c tokens nowhere none names (v ∷ vs) rest (m, (k, d, more), close) = none names v k d

parts_none_more : (c : ℕ) → Closes c → (names : List NameText) (v : TypedValue) (tokens behind : List Lexeme) → typed names v tokens behind → NoMore behind → DerivesNoneWith (parts c) tokens
unfolding ◌>>◌ NoMore
parts_none_more c closes names v tokens behind d none other [] rest (m, same, close) =
    typed_no_mark c names v tokens behind rest closes.no91 closes.no60 closes.no123 d (subst (λ ls. mark c ls rest) (sym same) close)
parts_none_more c closes names v tokens behind d none other (w ∷ ws) rest (m, (k, e, more), close) =
    none c closes other ws m rest (subst (λ ls. each_behind_comma (typed other) ws ls m) (typed_one other names w v tokens k behind e d) more) close

parts_none_end : (c : ℕ) → Closes c → (names other : List NameText) (v : TypedValue) (vs : List TypedValue) (tokens behind end : List Lexeme) → typed names v tokens behind → each_behind_comma (typed other) vs behind end → EndsNowhere (mark 44) end → EndsNowhere (mark c) end → DerivesNoneWith (parts c) tokens
unfolding ◌>>◌
parts_none_end c closes names other v vs tokens behind end d e no_comma nowhere third [] rest (m, same, close) =
    typed_no_mark c names v tokens behind rest closes.no91 closes.no60 closes.no123 d (subst (λ ls. mark c ls rest) (sym same) close)
parts_none_end c closes names other v vs tokens behind end d e no_comma nowhere third (w ∷ ws) rest (m, (k, f, more), close) =
    none_behind other vs c behind end closes e no_comma nowhere third ws m rest (subst (λ ls. each_behind_comma (typed third) ws ls m) (typed_one third names w v tokens k behind f d) more) close

lane_none : (inside : List Lexeme) → EndsNowhere (mark 125) inside → DerivesNoneWith ty_here inside → IsLane inside → ⊥
lane_none inside no_brace none (empty behind brace nowhere) = no_brace behind brace
lane_none inside no_brace none (before_end names t end one ends) = none names t end one

angle_none_type : (tokens inside : List Lexeme) → mark 123 tokens inside → EndsNowhere (mark 125) inside → DerivesNoneWith ty_here inside → NoLanes tokens
unfolding ◌>>◌ NoLanes
angle_none_type tokens inside brace no_brace none names rest (vs, inl d) = lane_none inside no_brace none (lanes_begin names vs tokens inside rest d brace)
angle_none_type tokens inside brace no_brace none names rest (vs, inr (m, brace', (p, d, end))) =
    parts_none_first 125 inside no_brace (typed_none_type inside none) names vs p (subst (λ ls. parts 125 names vs ls p) (mark_leaves_one 123 tokens m inside brace' brace) d)

angle_none_lanes : (tokens inside : List Lexeme) → mark 123 tokens inside → IsLane inside → DerivesNoneWith (parts 62) tokens → NoLanes tokens
unfolding ◌>>◌ NoLanes
angle_none_lanes tokens inside brace lane none names rest (vs, inl d) = none names vs rest d
angle_none_lanes tokens inside brace lane none names rest (vs, inr (m, brace', (p, d, end))) =
    members_no_lane names vs inside p rest (subst (λ ls. parts 125 names vs ls p) (mark_leaves_one 123 tokens m inside brace' brace) d) end lane

angle_none_packed : (tokens inside : List Lexeme) → mark 123 tokens inside → (IsLane inside → ⊥) → ((names : List NameText) (vs : List TypedValue) (p rest : List Lexeme) → parts 125 names vs inside p → mark 62 p rest → ⊥) → NoLanes tokens
unfolding ◌>>◌ NoLanes
angle_none_packed tokens inside brace no_lane none names rest (vs, inl d) = no_lane (lanes_begin names vs tokens inside rest d brace)
angle_none_packed tokens inside brace no_lane none names rest (vs, inr (m, brace', (p, d, end))) =
    none names vs p rest (subst (λ ls. parts 125 names vs ls p) (mark_leaves_one 123 tokens m inside brace' brace) d) end

inbounds_same : (i : Bool) (tokens bracket k l : List Lexeme) → behind_inbounds tokens bracket → if_word (codes "inbounds") i tokens k → mark 40 k l → k ≡ bracket
inbounds_same true tokens bracket k l (inl w) w' m = word_leaves_one _ tokens k bracket w' w
inbounds_same true tokens bracket k l (inr (same, nowhere)) w' m = absurd (nowhere k w')
inbounds_same false tokens bracket k l (inl w) same' m = absurd (word_no_mark _ 40 tokens bracket l w (subst (λ ls. mark 40 ls l) (sym same') m))
inbounds_same false tokens bracket k l (inr (same, nowhere)) same' m = sym same' ∙ same

path_none_open : (tokens bracket : List Lexeme) → behind_inbounds tokens bracket → EndsNowhere (mark 40) bracket → DerivesNoneWith path tokens
unfolding ◌>>◌
path_none_open tokens bracket i nowhere names p rest (k, w, (l, m, more)) = nowhere l (subst (λ ls. mark 40 ls l) (inbounds_same p.inbounds tokens bracket k l i w m) m)

path_inside : (names : List NameText) (p : Path) (tokens bracket inside rest : List Lexeme) → behind_inbounds tokens bracket → mark 40 bracket inside → path names p tokens rest → (m : List Lexeme) × ty_here names p.through inside m × operands names p.operands m rest
unfolding ◌>>◌
path_inside names p tokens bracket inside rest i b (k, w, (l, m, (e, t, d))) =
    let same : k ≡ bracket = inbounds_same p.inbounds tokens bracket k l i w m in
    let same' : l ≡ inside = mark_leaves_one 40 bracket l inside (subst (λ ls. mark 40 ls l) same m) b in
    (e, subst (λ ls. ty_here names p.through ls e) same' t, d)

path_none_through : (tokens bracket inside : List Lexeme) → behind_inbounds tokens bracket → mark 40 bracket inside → DerivesNoneWith ty_here inside → DerivesNoneWith path tokens
path_none_through tokens bracket inside i b none names p rest d =
    let split : (m : List Lexeme) × ty_here names p.through inside m × operands names p.operands m rest = path_inside names p tokens bracket inside rest i b d in none names p.through split.0 split.1

path_none_operands : (names : List NameText) (t : LlType) (tokens bracket inside behind : List Lexeme) → behind_inbounds tokens bracket → mark 40 bracket inside → ty_here names t inside behind → DerivesNoneWith operands behind → DerivesNoneWith path tokens
path_none_operands names t tokens bracket inside behind i b one none other p rest d =
    let split : (m : List Lexeme) × ty_here other p.through inside m × operands other p.operands m rest = path_inside other p tokens bracket inside rest i b d in
    none other p.operands rest (subst (λ ls. operands other p.operands ls rest) (type_one other names p.through t inside split.0 behind split.1 one) split.2)

operands_none_more : (tokens : List Lexeme) → NoMore tokens → DerivesNoneWith operands tokens
unfolding ◌>>◌ NoMore
operands_none_more tokens none names vs rest (m, (two, d), close) = none 41 closes_41 names vs m rest d close

operands_none_few : (names : List NameText) (ws : List TypedValue) (tokens end : List Lexeme) → length ws < 2 → each_behind_comma (typed names) ws tokens end → EndsNowhere (mark 44) end → DerivesNoneWith operands tokens
unfolding ◌>>◌
operands_none_few names [] tokens end few same nowhere other [] rest (m, (two, d), close) = absurd (omega arith)
operands_none_few names [] tokens end few same nowhere other (v ∷ vs) rest (m, (two, (a, comma, more)), close) = nowhere a (subst (λ ls. mark 44 ls a) same comma)
operands_none_few names (w ∷ []) tokens end few (a', comma', (b', e, same)) nowhere other [] rest (m, (two, d), close) = absurd (omega arith)
operands_none_few names (w ∷ []) tokens end few (a', comma', (b', e, same)) nowhere other (v ∷ []) rest (m, (two, d), close) = absurd (omega arith)
operands_none_few names (w ∷ []) tokens end few (a', comma', (b', e, same)) nowhere other (v ∷ u ∷ vs) rest (m, (two, (a, comma, (b, d, (k, comma'', more)))), close) =
    let same_a : a ≡ a' = mark_leaves_one 44 tokens a a' comma comma' in
    let same_b : b ≡ b' = typed_one other names v w a' b b' (subst (λ ls. typed other v ls b) same_a d) e in
    nowhere k (subst (λ ls. mark 44 ls k) (same_b ∙ same) comma'')
operands_none_few names (w ∷ x ∷ ws) tokens end few e nowhere other vs rest d = absurd (omega arith)

operands_none_end : (names : List NameText) (ws : List TypedValue) (tokens end : List Lexeme) → each_behind_comma (typed names) ws tokens end → EndsNowhere (mark 44) end → EndsNowhere (mark 41) end → DerivesNoneWith operands tokens
unfolding ◌>>◌
operands_none_end names ws tokens end e no_comma nowhere other vs rest (m, (two, d), close) = none_behind names ws 41 tokens end closes_41 e no_comma nowhere other vs m rest d close

cast_none_open : (tokens : List Lexeme) → EndsNowhere (mark 40) tokens → DerivesNoneWith conversion tokens
unfolding ◌>>◌
cast_none_open tokens nowhere names c rest (k, m, more) = nowhere k m

cast_none_operand : (tokens inside : List Lexeme) → mark 40 tokens inside → DerivesNoneWith typed inside → DerivesNoneWith conversion tokens
unfolding ◌>>◌
cast_none_operand tokens inside b none names c rest (k, m, (l, d, more)) = none names c.operand l (subst (λ ls. typed names c.operand ls l) (mark_leaves_one 40 tokens k inside m b) d)

-- what stands behind the operand of a conversion
cast_behind : (names : List NameText) (v : TypedValue) (tokens inside behind : List Lexeme) → mark 40 tokens inside → typed names v inside behind → (other : List NameText) (c : Conversion) (rest : List Lexeme) → conversion other c tokens rest → (word (codes "to") >> ty_here other c.to >> mark 41) behind rest
unfolding ◌>>◌
cast_behind names v tokens inside behind b one other c rest (k, m, (l, d, more)) =
    let same : k ≡ inside = mark_leaves_one 40 tokens k inside m b in
    let same' : l ≡ behind = typed_one other names c.operand v inside l behind (subst (λ ls. typed other c.operand ls l) same d) one in
    subst (λ ls. (p : List Lexeme) × word (codes "to") ls p × ((q : List Lexeme) × ty_here other c.to p q × mark 41 q rest)) same' more

to_none : (other : List NameText) (c : Conversion) (behind rest : List Lexeme) → EndsNowhere (word (codes "to")) behind → (word (codes "to") >> ty_here other c.to >> mark 41) behind rest → ⊥
unfolding ◌>>◌
to_none other c behind rest nowhere (p, w, more) = nowhere p w

target_none : (other : List NameText) (c : Conversion) (behind target rest : List Lexeme) → word (codes "to") behind target → DerivesNoneWith ty_here target → (word (codes "to") >> ty_here other c.to >> mark 41) behind rest → ⊥
unfolding ◌>>◌
target_none other c behind target rest w none (p, w', (q, t, close)) = none other c.to q (subst (λ ls. ty_here other c.to ls q) (word_leaves_one _ behind p target w' w) t)

close_none : (names other : List NameText) (t : LlType) (c : Conversion) (behind target end rest : List Lexeme) → word (codes "to") behind target → ty_here names t target end → EndsNowhere (mark 41) end → (word (codes "to") >> ty_here other c.to >> mark 41) behind rest → ⊥
unfolding ◌>>◌
close_none names other t c behind target end rest w one nowhere (p, w', (q, u, close)) =
    let same : p ≡ target = word_leaves_one _ behind p target w' w in
    nowhere rest (subst (λ ls. mark 41 ls rest) (type_one other names c.to t target q end (subst (λ ls. ty_here other c.to ls q) same u) one) close)

mutual
  pub none_value : {t : LlType} {tokens : List Lexeme} {refusal : Refusal} → ValueFails t tokens refusal → DerivesNoneWith (value_of t) tokens
  none_value {t} {tokens} (no_single none refused) names v rest d =
      let k = inside_known singles t names v tokens tokens rest (refl, none) d in refused.0 names k.0 rest k.1
  none_value {t} {tokens} (in_array inside m fails) names v rest d =
      let k = inside_known arrays t names v tokens inside rest m d in none_parts fails closes_93 names k.0 rest k.1
  none_value {t} {tokens} (in_struct inside m fails) names v rest d =
      let k = inside_known structs t names v tokens inside rest m d in none_parts fails closes_125 names k.0 rest k.1
  none_value {t} {tokens} (in_vector inside m no_brace fails) names v rest d =
      lanes_at inside (vector_none inside no_brace (none_parts fails closes_62)) names rest (inside_known angles t names v tokens inside rest m d)
  none_value {t} {tokens} (in_angle behind inside m brace fails) names v rest d =
      lanes_at behind (none_angle fails brace) names rest (inside_known angles t names v tokens behind rest m d)
  none_value {t} {tokens} (in_path behind m fails) names v rest d =
      let k = inside_known paths t names v tokens behind rest m d in none_path fails names k.0 rest k.1
  none_value {t} {tokens} (in_cast behind m fails) names v rest d =
      let k = inside_known casts t names v tokens behind rest m d in none_cast fails names k.0 rest k.1

  pub none_typed : {tokens : List Lexeme} {refusal : Refusal} → TypedFails tokens refusal → DerivesNoneWith typed tokens
  none_typed {tokens} (no_type fails) = typed_none_type tokens (none_type fails)
  none_typed {tokens} (no_value names t behind one fails) = typed_none_value names t tokens behind one (none_value fails)

  none_more : {tokens : List Lexeme} {refusal : Refusal} → MoreFail tokens refusal → NoMore tokens
  none_more {tokens} (no_next names vs end behind d comma fails) = none_next names vs tokens end behind d comma (none_typed fails)

  none_parts : {c : ℕ} {tokens : List Lexeme} {refusal : Refusal} → PartsFail c tokens refusal → Closes c → DerivesNoneWith (parts c) tokens
  none_parts {c} {tokens} (no_first nowhere fails) closes = parts_none_first c tokens nowhere (none_typed fails)
  none_parts {c} {tokens} (in_more names v behind d fails) closes = parts_none_more c closes names v tokens behind d (none_more fails)
  none_parts {c} {tokens} (no_end names other v vs behind end d e no_comma unexpected) closes = parts_none_end c closes names other v vs tokens behind end d e no_comma unexpected.0

  none_angle : {tokens inside : List Lexeme} {refusal : Refusal} → AngleFails tokens inside refusal → mark 123 tokens inside → NoLanes tokens
  none_angle {tokens} {inside} (no_type_inside no_brace fails) brace = angle_none_type tokens inside brace no_brace (none_type fails)
  none_angle {tokens} {inside} (in_lanes lane fails) brace = angle_none_lanes tokens inside brace lane (none_parts fails closes_62)
  none_angle {tokens} {inside} (in_packed no_lane fails) brace = angle_none_packed tokens inside brace no_lane (λ names vs p rest d end. none_parts fails closes_125 names vs p d)
  none_angle {tokens} {inside} (behind_packed names' vs' behind no_lane d' unexpected) brace =
      angle_none_packed tokens inside brace no_lane (λ names vs p rest d end. unexpected.0 rest (subst (λ ls. mark 62 ls rest) (parts_one (length inside) (one_at _) 125 closes_125 names names' vs vs' inside p behind (omega arith) d d') end))

  none_path : {tokens : List Lexeme} {refusal : Refusal} → PathFails tokens refusal → DerivesNoneWith path tokens
  none_path {tokens} (no_open bracket i unexpected) = path_none_open tokens bracket i unexpected.0
  none_path {tokens} (no_through bracket inside i b fails) = path_none_through tokens bracket inside i b (none_type fails)
  none_path {tokens} (in_operands names t bracket inside behind i b one fails) = path_none_operands names t tokens bracket inside behind i b one (none_operands fails)

  none_operands : {tokens : List Lexeme} {refusal : Refusal} → OperandsFail tokens refusal → DerivesNoneWith operands tokens
  none_operands {tokens} (in_more_operands fails) = operands_none_more tokens (none_more fails)
  none_operands {tokens} (too_few names vs end few d unexpected) = operands_none_few names vs tokens end few d unexpected.0
  none_operands {tokens} (no_close names vs end two d no_comma unexpected) = operands_none_end names vs tokens end d no_comma unexpected.0

  none_cast : {tokens : List Lexeme} {refusal : Refusal} → CastFails tokens refusal → DerivesNoneWith conversion tokens
  none_cast {tokens} (no_cast_open unexpected) = cast_none_open tokens unexpected.0
  none_cast {tokens} (no_operand inside b fails) = cast_none_operand tokens inside b (none_typed fails)
  none_cast {tokens} (no_to names v inside behind b d unexpected) = λ other c rest e. to_none other c behind rest unexpected.0 (cast_behind names v tokens inside behind b d other c rest e)
  none_cast {tokens} (no_target names v inside behind target b d w fails) = λ other c rest e. target_none other c behind target rest w (none_type fails) (cast_behind names v tokens inside behind b d other c rest e)
  none_cast {tokens} (no_cast_close names third v t inside behind target end b d w one unexpected) =
      λ other c rest e. close_none third other t c behind target end rest w one unexpected.0 (cast_behind names v tokens inside behind b d other c rest e)

-- an answer with the place of a refusal is one that says that nothing is derived
pub with_none : {X A : Type 0} (read : X → Type 0) (item : List NameText → A → Production) (fails : List Lexeme → Refusal → Type 0) (tokens : List Lexeme) → ((refusal : Refusal) → fails tokens refusal → DerivesNoneWith item tokens) → (answer : Result X ReadError) → MatchResult answer read (Unless (fails tokens)) → MatchResult answer read (NoneAnd item fails tokens)
with_none read item fails tokens none (Ok x) r = r
with_none read item fails tokens none (Err NoMemory) stops = tt
with_none read item fails tokens none (Err (Refused refusal)) f = (none refusal f, f)
