-- Values are refused at one place, by one rule: a value is a part of parts, of which those inside it have fewer tokens.
use Rattle.std.proofs.Common.{◌≡◌, ℕ, zero, suc, ◌<◌, ◌≤◌, List, [], ◌∷◌, length, codes, refl, sym, ap, ◌∙◌, subst, inl, inr, Option, arith}
use Rattle.ll_tokens.specs.Tokens.{Lexeme}
use Rattle.ll_tree.specs.declared.name.NameText.{NameText}
use Rattle.ll_tree.specs.declared.op.CastKind.{CastKind}
use Rattle.ll_tree.specs.declared.op.CastKind.TheVariants.{AddrSpaceCast, Bitcast, IntToPtr, PtrToInt, Sext, Trunc, Zext}
use Rattle.ll_tree.specs.declared.ty.LlType.{LlType}
use Rattle.ll_tree.specs.declared.value.TypedValue.{TypedValue}
use Rattle.ll_parser.specs.declared.refusal.Refusal.{Refusal}
use Rattle.ll_parser.specs.GrammarValues.{IsOfConstants, cast_word, typed}
use Rattle.ll_parser.specs.Productions.{◌>>◌, each_behind_comma, mark, word}
use Rattle.ll_parser.specs.Reading.{EndsNowhere}
use Rattle.ll_parser.specs.Spaces.{IsUnexpected}
use Rattle.ll_parser.proofs.PointerFacts.{word_no_mark}
use Rattle.ll_parser.proofs.TokenFacts.{token_leaves_one}
use Rattle.ll_types.specs.SingleValues.{single, single_rule}
use Rattle.ll_types.specs.TypeParts.{ty_here}
use Rattle.ll_types.specs.TypeRefusals.{TypeFails}
use Rattle.ll_types.specs.ValueOpenings.{cast_opening}
use Rattle.ll_types.specs.ValueParts.{IsLane, before_end, empty, parts}
use Rattle.ll_types.specs.ValueRefusals.{AngleFails, CastFails, OperandsFail, PartsFail, PathFails, TypedFails, ValueFails, behind_inbounds, behind_packed, in_angle, in_array, in_cast, in_lanes, in_more, in_more_operands, in_operands, in_packed, in_path, in_struct, in_vector, no_cast_close, no_cast_open, no_close, no_end, no_first, no_next, no_open, no_operand, no_single, no_target, no_through, no_to, no_type, no_type_inside, no_value, too_few}
use Rattle.ll_types.proofs.NoTypes.{none_type}
use Rattle.ll_types.proofs.OneType.{type_one, type_shortens}
use Rattle.ll_types.proofs.OneValue.{Closes, closes_125, closes_62, closes_93, typed_apart, typed_no_mark}
use Rattle.ll_types.proofs.Tokens.{marks_apart, token_end, token_shortens}
use Rattle.ll_types.proofs.ValueForms.{lanes_or_members}
use Rattle.ll_types.proofs.ValueRows.{typed_shortens}
use Rattle.ll_attributes.proofs.ListFacts.{words_apart}
use Rattle.ll_operands.specs.Parts.{Begins, Part, any, either, mark_part, optional, repeated, ◌then◌, times, type_part, typed_part, value_part, word_part}
use Rattle.ll_operands.proofs.PartFacts.{IsExact, exact_either, exact_mark, exact_optional, exact_repeated, exact_then, exact_type, exact_typed, exact_word}
use Rattle.ll_items.specs.ItemParts.{sole}
use Rattle.ll_items.proofs.NodeFacts.{exact_sole}
use Rattle.ll_places.proofs.Joins.{Once, RefusesOnce, once_either, once_optional, once_repeated, once_then}
use Rattle.ll_places.proofs.Leaves.{once_mark, once_word, unexpected_once}
use Rattle.ll_places.proofs.Types.{once_type}

-- a value with its type, of fewer tokens
abbrev small_typed : ℕ → Part
small_typed n = record { begins = any typed; stops = λ tokens refusal. (length tokens < n) × TypedFails tokens refusal }

exact_small : (n : ℕ) → IsExact (small_typed n)
exact_small n = record { one = exact_typed.one; none = λ tokens rest refusal s d. exact_typed.none tokens rest refusal s.1 d; ends = exact_typed.ends }

-- a value of one token
abbrev single_part : Part
single_part = record {
  begins = λ tokens rest. (t : LlType) × any (single t) tokens rest;
  stops = λ tokens refusal. refusal ≡ record { rule = single_rule tokens; left = length tokens };
}

-- a conversion's word
exact_cast : IsExact (sole cast_opening)
exact_cast = exact_sole cast_opening (λ tokens a b d e. token_leaves_one _ _ _ tokens a b d.2 e.2) (λ tokens rest d. token_end _ _ tokens rest d.2)

cast_no_path : (kind : CastKind) (tokens a b : List Lexeme) → IsOfConstants kind → word (cast_word kind) tokens a → word (codes "getelementptr") tokens b → ⊥
cast_no_path Trunc tokens a b one w x = one
cast_no_path Zext tokens a b one w x = one
cast_no_path Sext tokens a b one w x = one
cast_no_path PtrToInt tokens a b one w x = words_apart (codes "ptrtoint") (codes "getelementptr") tokens a b refl w x
cast_no_path IntToPtr tokens a b one w x = words_apart (codes "inttoptr") (codes "getelementptr") tokens a b refl w x
cast_no_path Bitcast tokens a b one w x = words_apart (codes "bitcast") (codes "getelementptr") tokens a b refl w x
cast_no_path AddrSpaceCast tokens a b one w x = words_apart (codes "addrspacecast") (codes "getelementptr") tokens a b refl w x

other_mark : (c d : ℕ) (tokens b : List Lexeme) → (c ≡ d → ⊥) → mark c tokens b → EndsNowhere (mark d) tokens
other_mark c d tokens b differ m k m' = marks_apart c d tokens b k differ m m'

-- behind `<{`, where no type stands
lane_none : (tokens : List Lexeme) (refusal : Refusal) → EndsNowhere (mark 125) tokens → TypeFails tokens refusal → IsLane tokens → ⊥
lane_none tokens refusal nowhere fails (empty b brace _) = nowhere b brace
lane_none tokens refusal nowhere fails (before_end names t end d _) = none_type fails names t end d

no_typed : (tokens rest : List Lexeme) (refusal : Refusal) (names : List NameText) (v : TypedValue) → TypeFails tokens refusal → typed names v tokens rest → ⊥
no_typed tokens rest refusal names v fails d =
    let split : (m : List Lexeme) × ty_here names v.ty tokens m × _ = typed_apart names v tokens rest d in
    none_type fails names v.ty split.0 split.1

type_first : (tokens : List Lexeme) (r s : Refusal) → TypeFails tokens r → PartsFail 125 tokens s → r ≡ s
type_first tokens r s fails (no_first nowhere (no_type other)) = once_type.refuses tokens r s fails other
type_first tokens r s fails (no_first nowhere (no_value names t b d _)) = absurd (none_type fails names t b d)
type_first tokens r s fails (in_more names v b d _) = absurd (no_typed tokens b r names v fails d)
type_first tokens r s fails (no_end names other v vs b end d _ _ _) = absurd (no_typed tokens b r names v fails d)

no_parts : (tokens rest : List Lexeme) (refusal : Refusal) (names : List NameText) (vs : List TypedValue) → EndsNowhere (mark 125) tokens → TypeFails tokens refusal → parts 125 names vs tokens rest → ⊥
unfolding ◌>>◌
no_parts tokens rest refusal names [] nowhere fails (m, same, close) = nowhere rest (subst (λ ls. mark 125 ls rest) (sym same) close)
no_parts tokens rest refusal names (v ∷ vs) nowhere fails (m, (b, d, _), close) = no_typed tokens b refusal names v fails d

module _ (n : ℕ) where
  abbrev next_part : Part
  next_part = mark_part 44 then small_typed n

  abbrev more_part : Part
  more_part = repeated (mark 44) next_part

  abbrev listed_part : ℕ → Part
  listed_part close = small_typed n then more_part then mark_part close

  abbrev parts_part : ℕ → Part
  parts_part close = either (mark close) (mark_part close) (listed_part close)

  abbrev angle_part : Part
  angle_part = record {
    begins = λ tokens rest. (names : List NameText) × lanes_or_members names tokens rest;
    stops = λ tokens refusal. (inside : List Lexeme) × mark 123 tokens inside × (length tokens < n) × AngleFails tokens inside refusal;
  }

  abbrev operands_part : Part
  operands_part = mark_part 44 then small_typed n then mark_part 44 then small_typed n then more_part then mark_part 41

  abbrev inbounds_part : Part
  inbounds_part = optional (word (codes "inbounds")) (word_part (codes "inbounds"))

  abbrev path_part : Part
  path_part = inbounds_part then mark_part 40 then type_part then operands_part

  abbrev cast_part : Part
  cast_part = mark_part 40 then small_typed n then word_part (codes "to") then type_part then mark_part 41

  abbrev casts_part : Part
  casts_part = either cast_opening (sole cast_opening then cast_part) single_part

  abbrev paths_part : Part
  paths_part = either (word (codes "getelementptr")) (word_part (codes "getelementptr") then path_part) casts_part

  abbrev behind_angle : Part
  behind_angle = either (mark 123) angle_part (parts_part 62)

  abbrev angles_part : Part
  angles_part = either (mark 60) (mark_part 60 then behind_angle) paths_part

  abbrev structs_part : Part
  structs_part = either (mark 123) (mark_part 123 then parts_part 125) angles_part

  abbrev values_part : Part
  values_part = either (mark 91) (mark_part 91 then parts_part 93) structs_part

  opens_mark : (code : ℕ) (p : Part) (tokens rest : List Lexeme) → (mark_part code then p).begins tokens rest → Begins (mark code) tokens
  unfolding ◌>>◌
  opens_mark code p tokens rest (m, here, _) = (m, here)

  exact_next : IsExact next_part
  exact_next = exact_then (mark_part 44) (small_typed n) (exact_mark 44) (exact_small n)

  exact_more : IsExact more_part
  exact_more = exact_repeated (mark 44) next_part exact_next (opens_mark 44 (small_typed n))

  exact_parts : (close : ℕ) → IsExact (parts_part close)
  exact_parts close =
      exact_either (mark close) (mark_part close) (listed_part close) (exact_mark close)
      (exact_then (small_typed n) (more_part then mark_part close) (exact_small n) (exact_then more_part (mark_part close) exact_more (exact_mark close))) (λ tokens rest d. (rest, d))

  -- derivations as parts
  commas : (names : List NameText) (vs : List TypedValue) (tokens rest : List Lexeme) → each_behind_comma (typed names) vs tokens rest → times (length vs) next_part.begins tokens rest
  unfolding ◌>>◌
  commas names [] tokens rest same = same
  commas names (v ∷ vs) tokens rest (m, comma, (k, d, more)) = (k, (m, comma, (names, v, d)), commas names vs k rest more)

  no_longer : (names : List NameText) (vs : List TypedValue) (tokens rest : List Lexeme) → each_behind_comma (typed names) vs tokens rest → length rest ≤ length tokens
  unfolding ◌>>◌
  no_longer names [] tokens rest same = let e : length tokens ≡ length rest = ap length same in omega arith
  no_longer names (v ∷ vs) tokens rest (m, comma, (k, d, more)) =
      let less : length m < length tokens = (token_shortens _ _ tokens m comma).less in
      let less' : length k < length m = (typed_shortens names v m k d).less in
      let le : length rest ≤ length k = no_longer names vs k rest more in
      omega arith

  behind_comma : (names : List NameText) (vs : List TypedValue) (tokens end b : List Lexeme) → length tokens < n → each_behind_comma (typed names) vs tokens end → mark 44 end b → length b < n
  behind_comma names vs tokens end b less d comma =
      let le : length end ≤ length tokens = no_longer names vs tokens end d in
      let less' : length b < length end = (token_shortens _ _ end b comma).less in
      omega arith

  no_mark : (close : ℕ) → Closes close → (names : List NameText) (v : TypedValue) (tokens b : List Lexeme) → typed names v tokens b → EndsNowhere (mark close) tokens
  no_mark close closes names v tokens b d k m = typed_no_mark close names v tokens b k closes.no91 closes.no60 closes.no123 d m

  is_parts : (close : ℕ) → Closes close → (names : List NameText) (vs : List TypedValue) (tokens rest : List Lexeme) → parts close names vs tokens rest → (parts_part close).begins tokens rest
  unfolding ◌>>◌
  is_parts close closes names [] tokens rest (m, same, end) = inl (subst (λ ls. mark close ls rest) (sym same) end)
  is_parts close closes names (v ∷ vs) tokens rest (m, (b, d, more), end) =
      inr (no_mark close closes names v tokens b d, (b, (names, v, d), (m, (length vs, commas names vs b m more, λ k comma. marks_apart 44 close m k rest closes.no_comma comma end), end)))

  -- refusals as those of parts
  parts_stop : (close : ℕ) → Closes close → {tokens : List Lexeme} {refusal : Refusal} → length tokens < n → PartsFail close tokens refusal → (parts_part close).stops tokens refusal
  parts_stop close closes less (no_first nowhere fails) = inr (nowhere, inl (less, fails))
  parts_stop close closes {tokens} less (in_more names v b d (no_next other vs end k more comma fails)) =
      let less_b : length b < length tokens = (typed_shortens names v tokens b d).less in
      inr (no_mark close closes names v tokens b d, inr (b, (names, v, d), inl (length vs, end, commas other vs b end more, (k, comma), inr (k, comma, (behind_comma other vs b end k (omega arith) more comma, fails)))))
  parts_stop close closes {tokens} less (no_end names other v vs b end d more no_comma unexpected) =
      inr (no_mark close closes names v tokens b d, inr (b, (names, v, d), inr (end, (length vs, commas other vs b end more, no_comma), unexpected)))

  operands_stop : {tokens : List Lexeme} {refusal : Refusal} → length tokens < n → OperandsFail tokens refusal → operands_part.stops tokens refusal
  unfolding ◌>>◌
  operands_stop {tokens} less (in_more_operands (no_next names [] end b same comma fails)) =
      inr (b, subst (λ ls. mark 44 ls b) (sym same) comma, inl (behind_comma names [] tokens end b less same comma, fails))
  operands_stop {tokens} less (in_more_operands (no_next names (v ∷ []) end b (m, c, (k, d, same)) comma fails)) =
      inr (m, c, inr (k, (names, v, d), inr (b, subst (λ ls. mark 44 ls b) (sym same) comma, inl (behind_comma names (v ∷ []) tokens end b less (m, c, (k, d, same)) comma, fails))))
  operands_stop {tokens} less (in_more_operands (no_next names (v ∷ w ∷ vs) end b (m, c, (k, d, (m', c', (k', d', more)))) comma fails)) =
      inr (m, c, inr (k, (names, v, d), inr (m', c', inr (k', (names, w, d'), inl (length vs, end, commas names vs k' end more, (b, comma), inr (b, comma, (behind_comma names (v ∷ w ∷ vs) tokens end b less (m, c, (k, d, (m', c', (k', d', more)))) comma, fails)))))))
  operands_stop {tokens} {refusal} less (too_few names [] end few same unexpected) = inl (subst (λ ls. IsUnexpected (mark 44) ls refusal) (sym same) unexpected)
  operands_stop {tokens} {refusal} less (too_few names (v ∷ []) end few (m, c, (k, d, same)) unexpected) =
      inr (m, c, inr (k, (names, v, d), inl (subst (λ ls. IsUnexpected (mark 44) ls refusal) (sym same) unexpected)))
  operands_stop less (too_few names (v ∷ w ∷ vs) end few d unexpected) = absurd (omega arith)
  operands_stop less (no_close names [] end two d no_comma unexpected) = absurd (omega arith)
  operands_stop less (no_close names (v ∷ []) end two d no_comma unexpected) = absurd (omega arith)
  operands_stop less (no_close names (v ∷ w ∷ vs) end two (m, c, (k, d, (m', c', (k', d', more)))) no_comma unexpected) =
      inr (m, c, inr (k, (names, v, d), inr (m', c', inr (k', (names, w, d'), inr (end, (length vs, commas names vs k' end more, no_comma), unexpected)))))

  inbounds_shorter : (tokens bracket : List Lexeme) → behind_inbounds tokens bracket → length bracket ≤ length tokens
  inbounds_shorter tokens bracket (inl w) = let less : length bracket < length tokens = (token_shortens _ _ tokens bracket w).less in omega arith
  inbounds_shorter tokens bracket (inr (same, _)) = let e : length tokens ≡ length bracket = ap length same in omega arith

  path_stop : {tokens : List Lexeme} {refusal : Refusal} → length tokens < n → PathFails tokens refusal → path_part.stops tokens refusal
  path_stop less (no_open bracket i unexpected) = inr (bracket, i, inl unexpected)
  path_stop less (no_through bracket inside i b fails) = inr (bracket, i, inr (inside, b, inl fails))
  path_stop {tokens} less (in_operands names t bracket inside k i b d fails) =
      let le : length bracket ≤ length tokens = inbounds_shorter tokens bracket i in
      let less_i : length inside < length bracket = (token_shortens _ _ bracket inside b).less in
      let less_k : length k < length inside = (type_shortens names t inside k d).less in
      inr (bracket, i, inr (inside, b, inr (k, (names, t, d), operands_stop (omega arith) fails)))

  cast_stop : {tokens : List Lexeme} {refusal : Refusal} → length tokens < n → CastFails tokens refusal → cast_part.stops tokens refusal
  cast_stop less (no_cast_open unexpected) = inl unexpected
  cast_stop {tokens} less (no_operand inside b fails) =
      let less_i : length inside < length tokens = (token_shortens _ _ tokens inside b).less in
      inr (inside, b, inl (omega arith, fails))
  cast_stop less (no_to names v inside k b d unexpected) = inr (inside, b, inr (k, (names, v, d), inl unexpected))
  cast_stop less (no_target names v inside k target b d w fails) = inr (inside, b, inr (k, (names, v, d), inr (target, w, inl fails)))
  cast_stop less (no_cast_close names other v t inside k target end b d w one unexpected) =
      inr (inside, b, inr (k, (names, v, d), inr (target, w, inr (end, (other, t, one), unexpected))))

  value_stop : {t : LlType} {tokens : List Lexeme} {refusal : Refusal} → length tokens < suc n → ValueFails t tokens refusal → values_part.stops tokens refusal
  value_stop less (no_single o refused) = inr (o.no_array, inr (o.no_brace, inr (o.no_angle, inr (o.no_path, inr (o.no_cast, refused.1)))))
  value_stop {t} {tokens} less (in_array inside m fails) =
      let less' : length inside < length tokens = (token_shortens _ _ tokens inside m).less in
      inl ((inside, m), inr (inside, m, parts_stop 93 closes_93 (omega arith) fails))
  value_stop {t} {tokens} less (in_struct inside m fails) =
      let less' : length inside < length tokens = (token_shortens _ _ tokens inside m).less in
      inr (other_mark 123 91 tokens inside (λ e. omega arith) m, inl ((inside, m), inr (inside, m, parts_stop 125 closes_125 (omega arith) fails)))
  value_stop {t} {tokens} less (in_vector inside m nowhere fails) =
      let less' : length inside < length tokens = (token_shortens _ _ tokens inside m).less in
      inr (other_mark 60 91 tokens inside (λ e. omega arith) m, inr (other_mark 60 123 tokens inside (λ e. omega arith) m, inl ((inside, m), inr (inside, m, inr (nowhere, parts_stop 62 closes_62 (omega arith) fails)))))
  value_stop {t} {tokens} less (in_angle b inside m brace fails) =
      let less' : length b < length tokens = (token_shortens _ _ tokens b m).less in
      inr (other_mark 60 91 tokens b (λ e. omega arith) m, inr (other_mark 60 123 tokens b (λ e. omega arith) m, inl ((b, m), inr (b, m, inl ((inside, brace), (inside, brace, omega arith, fails))))))
  value_stop {t} {tokens} less (in_path b w fails) =
      let less' : length b < length tokens = (token_shortens _ _ tokens b w).less in
      inr (λ k m. word_no_mark _ 91 tokens b k w m, inr (λ k m. word_no_mark _ 123 tokens b k w m, inr (λ k m. word_no_mark _ 60 tokens b k w m, inl ((b, w), inr (b, w, path_stop (omega arith) fails)))))
  value_stop {t} {tokens} less (in_cast b (kind, one, w) fails) =
      let less' : length b < length tokens = (token_shortens _ _ tokens b w).less in
      inr (λ k m. word_no_mark _ 91 tokens b k w m, inr (λ k m. word_no_mark _ 123 tokens b k w m, inr (λ k m. word_no_mark _ 60 tokens b k w m, inr (λ k x. cast_no_path kind tokens b k one w x, inl ((b, (kind, one, w)), inr (b, (kind, one, w), cast_stop (omega arith) fails))))))

  module _ (once : Once (small_typed n)) where
    once_next : Once next_part
    once_next = once_then (mark_part 44) (small_typed n) (exact_mark 44) (once_mark 44) once

    once_closed : (close : ℕ) → Once (more_part then mark_part close)
    once_closed close = once_then more_part (mark_part close) exact_more (once_repeated (mark 44) next_part exact_next once_next) (once_mark close)

    once_parts : (close : ℕ) → Once (parts_part close)
    once_parts close =
        once_either (mark close) (mark_part close) (listed_part close) (once_mark close) (once_then (small_typed n) (more_part then mark_part close) (exact_small n) once (once_closed close))

    parts_once : (close : ℕ) → Closes close → (tokens : List Lexeme) (r s : Refusal) → length tokens < n → PartsFail close tokens r → PartsFail close tokens s → r ≡ s
    parts_once close closes tokens r s less d e = (once_parts close).refuses tokens r s (parts_stop close closes less d) (parts_stop close closes less e)

    no_packed : (tokens rest : List Lexeme) (refusal : Refusal) (names : List NameText) (vs : List TypedValue) → length tokens < n → PartsFail 125 tokens refusal → parts 125 names vs tokens rest → ⊥
    no_packed tokens rest refusal names vs less fails d = (exact_parts 125).none tokens rest refusal (parts_stop 125 closes_125 less fails) (is_parts 125 closes_125 names vs tokens rest d)

    behind_once : (tokens a b : List Lexeme) (r s : Refusal) (names other : List NameText) (vs ws : List TypedValue) → parts 125 names vs tokens a → IsUnexpected (mark 62) a r → parts 125 other ws tokens b → IsUnexpected (mark 62) b s → r ≡ s
    behind_once tokens a b r s names other vs ws d f d' f' =
        unexpected_once (mark 62) a r s f (subst (λ ls. IsUnexpected (mark 62) ls s) ((exact_parts 125).one tokens b a (is_parts 125 closes_125 other ws tokens b d') (is_parts 125 closes_125 names vs tokens a d)) f')

    angle_once : (tokens inside : List Lexeme) (r s : Refusal) → length tokens < n → length inside < n → AngleFails tokens inside r → AngleFails tokens inside s → r ≡ s
    angle_once tokens inside r s lt li (no_type_inside nowhere d) (no_type_inside _ e) = once_type.refuses inside r s d e
    angle_once tokens inside r s lt li (no_type_inside nowhere d) (in_lanes lane e) = absurd (lane_none inside r nowhere d lane)
    angle_once tokens inside r s lt li (no_type_inside nowhere d) (in_packed no_lane e) = type_first inside r s d e
    angle_once tokens inside r s lt li (no_type_inside nowhere d) (behind_packed names vs b no_lane e _) = absurd (no_parts inside b r names vs nowhere d e)
    angle_once tokens inside r s lt li (in_lanes lane d) (no_type_inside nowhere e) = absurd (lane_none inside s nowhere e lane)
    angle_once tokens inside r s lt li (in_lanes lane d) (in_lanes _ e) = parts_once 62 closes_62 tokens r s lt d e
    angle_once tokens inside r s lt li (in_lanes lane d) (in_packed no_lane e) = absurd (no_lane lane)
    angle_once tokens inside r s lt li (in_lanes lane d) (behind_packed names vs b no_lane e _) = absurd (no_lane lane)
    angle_once tokens inside r s lt li (in_packed no_lane d) (no_type_inside nowhere e) = sym (type_first inside s r e d)
    angle_once tokens inside r s lt li (in_packed no_lane d) (in_lanes lane e) = absurd (no_lane lane)
    angle_once tokens inside r s lt li (in_packed no_lane d) (in_packed _ e) = parts_once 125 closes_125 inside r s li d e
    angle_once tokens inside r s lt li (in_packed no_lane d) (behind_packed names vs b _ e _) = absurd (no_packed inside b r names vs li d e)
    angle_once tokens inside r s lt li (behind_packed names vs b no_lane d _) (no_type_inside nowhere e) = absurd (no_parts inside b s names vs nowhere e d)
    angle_once tokens inside r s lt li (behind_packed names vs b no_lane d _) (in_lanes lane e) = absurd (no_lane lane)
    angle_once tokens inside r s lt li (behind_packed names vs b no_lane d _) (in_packed _ e) = absurd (no_packed inside b s names vs li e d)
    angle_once tokens inside r s lt li (behind_packed names vs b no_lane d f) (behind_packed other ws c _ e g) = behind_once inside b c r s names other vs ws d f e g

    in_angle_once : RefusesOnce angle_part.stops
    in_angle_once tokens r s (m, brace, less, d) (m', brace', less', e) =
        let less_m : length m < length tokens = (token_shortens _ _ tokens m brace).less in
        angle_once tokens m r s less (omega arith) d (subst (λ ls. AngleFails tokens ls s) (token_leaves_one _ _ _ tokens m' m brace' brace) e)

    once_angle : Once angle_part
    once_angle = record { refuses = in_angle_once }

    once_operands : Once operands_part
    once_operands =
        once_then _ _ (exact_mark 44) (once_mark 44) (once_then (small_typed n) _ (exact_small n) once
        (once_then _ _ (exact_mark 44) (once_mark 44) (once_then (small_typed n) (more_part then mark_part 41) (exact_small n) once (once_closed 41))))

    once_path : Once path_part
    once_path =
        once_then inbounds_part (mark_part 40 then type_part then operands_part) (exact_optional (word (codes "inbounds")) (word_part (codes "inbounds")) (exact_word (codes "inbounds")) (λ tokens rest d. (rest, d)))
        (once_optional (word (codes "inbounds")) (word_part (codes "inbounds")) (once_word (codes "inbounds")))
        (once_then _ _ (exact_mark 40) (once_mark 40) (once_then type_part operands_part exact_type once_type once_operands))

    once_cast : Once cast_part
    once_cast =
        once_then _ _ (exact_mark 40) (once_mark 40) (once_then (small_typed n) _ (exact_small n) once
        (once_then _ _ (exact_word (codes "to")) (once_word (codes "to")) (once_then _ _ exact_type once_type (once_mark 41))))

    once_values : Once values_part
    once_values =
        once_either (mark 91) (mark_part 91 then parts_part 93) structs_part (once_then (mark_part 91) (parts_part 93) (exact_mark 91) (once_mark 91) (once_parts 93))
        (once_either (mark 123) (mark_part 123 then parts_part 125) angles_part (once_then (mark_part 123) (parts_part 125) (exact_mark 123) (once_mark 123) (once_parts 125))
        (once_either (mark 60) (mark_part 60 then behind_angle) paths_part
        (once_then (mark_part 60) behind_angle (exact_mark 60) (once_mark 60) (once_either (mark 123) angle_part (parts_part 62) once_angle (once_parts 62)))
        (once_either (word (codes "getelementptr")) (word_part (codes "getelementptr") then path_part) casts_part
        (once_then (word_part (codes "getelementptr")) path_part (exact_word (codes "getelementptr")) (once_word (codes "getelementptr")) once_path)
        (once_either cast_opening (sole cast_opening then cast_part) single_part
        (once_then (sole cast_opening) cast_part exact_cast (record { refuses = unexpected_once cast_opening }) once_cast) (record { refuses = λ tokens r s d e. d ∙ sym e })))))

    value_once : (t u : LlType) (tokens : List Lexeme) (r s : Refusal) → length tokens < suc n → ValueFails t tokens r → ValueFails u tokens s → r ≡ s
    value_once t u tokens r s less d e = once_values.refuses tokens r s (value_stop less d) (value_stop less e)

    typed_once : (tokens : List Lexeme) (r s : Refusal) → length tokens < suc n → TypedFails tokens r → TypedFails tokens s → r ≡ s
    typed_once tokens r s less (no_type d) (no_type e) = once_type.refuses tokens r s d e
    typed_once tokens r s less (no_type d) (no_value names t b one _) = absurd (none_type d names t b one)
    typed_once tokens r s less (no_value names t b one _) (no_type e) = absurd (none_type e names t b one)
    typed_once tokens r s less (no_value names t b one d) (no_value other u c one' e) =
        let less_b : length b < length tokens = (type_shortens names t tokens b one).less in
        value_once t u b r s (omega arith) d (subst (λ ls. ValueFails u ls s) (type_one other names u t tokens c b one' one) e)

once_below : (n : ℕ) → Once (small_typed n)
once_below zero = record { refuses = λ tokens r s d e. none tokens d.0 }
  where
    none : {A : Type 0} (tokens : List Lexeme) → length tokens < zero → A
    none tokens less = absurd (omega arith)
once_below (suc n) = record { refuses = λ tokens r s d e. typed_once n (once_below n) tokens r s d.0 d.1 e.1 }

pub once_typed : Once typed_part
once_typed = record { refuses = λ tokens r s d e. (once_below (suc (length tokens))).refuses tokens r s (omega arith, d) (omega arith, e) }

pub once_value : (width : Option ℕ) → Once (value_part width)
once_value width = record { refuses = λ tokens r s d e. value_once (length tokens) (once_below (length tokens)) d.0 e.0 tokens r s (omega arith) d.2 e.2 }
