-- Types are refused at one place, by one rule: a type is a part of parts, of which those inside it have fewer tokens.
use Rattle.std.proofs.Common.{◌≡◌, ℕ, zero, suc, ◌<◌, ◌≤◌, List, [], ◌∷◌, length, codes, ◌⊎◌, sym, ap, ◌∙◌, subst, inl, inr, arith}
use Rattle.ll_tokens.specs.declared.kinds.TokenKind.TheVariants.{Local as LocalToken, Punct}
use Rattle.ll_tokens.specs.Tokens.{Lexeme}
use Rattle.ll_tree.specs.declared.name.NameText.{NameText}
use Rattle.ll_tree.specs.declared.ty.LlType.{LlType}
use Rattle.ll_tree.specs.declared.ty.TypeBase.{TypeBase}
use Rattle.ll_parser.specs.declared.refusal.Refusal.{Refusal}
use Rattle.ll_parser.specs.GrammarTypes.{pointer, type_base, type_name}
use Rattle.ll_parser.specs.NameReading.{any_of}
use Rattle.ll_parser.specs.Pointers.{PointerFails, PointersRefused, pointers_here}
use Rattle.ll_parser.specs.Productions.{◌>>◌, each, each_behind_comma, mark}
use Rattle.ll_parser.specs.Reading.{EndsNowhere}
use Rattle.ll_parser.specs.Spaces.{IsNoSpace, IsUnexpected, space_here}
use Rattle.ll_parser.specs.WordTypes.{IsOneWord, NoWordType}
use Rattle.ll_parser.proofs.PointerFacts.{pointer_leaves_one}
use Rattle.ll_types.specs.declared.openings.TypeOpening.{TypeOpening}
use Rattle.ll_types.specs.declared.openings.TypeOpening.TheVariants.{Array, Vector, Struct, Packed, Named, Plain}
use Rattle.ll_types.specs.declared.types.Counted.{Counted}
use Rattle.ll_types.specs.TypeOpenings.{opens}
use Rattle.ll_types.specs.TypeParts.{counted, members, ty_here}
use Rattle.ll_types.specs.TypeRefusals.{CountedFails, MembersFail, TypeFails, behind_packed, in_array, in_packed, in_pointers, in_struct, in_vector, no_close, no_count, no_end, no_first, no_name, no_next, no_part, no_times, no_type}
use Rattle.ll_types.proofs.OneType.{base_one, base_shortens, one_at, type_no_brace, type_shortens}
use Rattle.ll_types.proofs.Tokens.{kinds_apart, marks_apart, shortens_ends, token_shortens}
use Rattle.ll_types.proofs.TypeOpened.{Opened, behind, opened_type}
use Rattle.ll_operands.specs.Parts.{Begins, Part, any, either, mark_part, number_part, repeated, ◌then◌, times, type_part, word_part}
use Rattle.ll_operands.proofs.PartFacts.{IsExact, exact_either, exact_mark, exact_number, exact_repeated, exact_then, exact_type, exact_word}
use Rattle.ll_items.specs.ItemParts.{type_name_part}
use Rattle.ll_places.proofs.Joins.{Once, RefusesOnce, once_either, once_repeated, once_then}
use Rattle.ll_places.proofs.Leaves.{exact_type_name, once_mark, once_number, once_type_name, once_word, space_once, space_one, space_refused, unexpected_once}

-- a type of fewer tokens
abbrev pub small_type : ℕ → Part
small_type n = record { begins = any ty_here; stops = λ tokens refusal. (length tokens < n) × TypeFails tokens refusal }

pub exact_small : (n : ℕ) → IsExact (small_type n)
exact_small n = record { one = exact_type.one; none = λ tokens rest refusal s d. exact_type.none tokens rest refusal s.1 d; ends = exact_type.ends }

-- pointers
abbrev PlaceFails : List Lexeme → Refusal → Type 0
PlaceFails tokens refusal = IsNoSpace tokens refusal ⊎ ((value : ℕ) × (behind : List Lexeme) × space_here value tokens behind × IsUnexpected (mark 42) behind refusal)

place_once : RefusesOnce PlaceFails
place_once tokens r s (inl d) (inl e) = space_once tokens r s d e
place_once tokens r s (inl d) (inr (v, b, space, _)) = absurd (space_refused tokens r d v b space)
place_once tokens r s (inr (v, b, space, _)) (inl e) = absurd (space_refused tokens s e v b space)
place_once tokens r s (inr (v, b, space, d)) (inr (w, c, space', e)) =
    unexpected_once (mark 42) b r s d (subst (λ ls. IsUnexpected (mark 42) ls s) (space_one w v tokens c b space' space) e)

pointer_once : RefusesOnce PointerFails
pointer_once tokens r s d e = place_once tokens r s d.place e.place

behind_once : (xs ys : List ℕ) (tokens a b : List Lexeme) (r s : Refusal) → each pointer xs tokens a → PointerFails a r → each pointer ys tokens b → PointerFails b s → r ≡ s
unfolding ◌>>◌
behind_once [] [] tokens a b r s same f same' f' = pointer_once a r s f (subst (λ ls. PointerFails ls s) (sym same' ∙ same) f')
behind_once [] (y ∷ ys) tokens a b r s same f (m, d, _) f' = absurd (f.none y m (subst (λ ls. pointer y ls m) same d))
behind_once (x ∷ xs) [] tokens a b r s (m, d, _) f same f' = absurd (f'.none x m (subst (λ ls. pointer x ls m) same d))
behind_once (x ∷ xs) (y ∷ ys) tokens a b r s (m, d, more) f (m', d', more') f' =
    behind_once xs ys m a b r s more f (subst (λ ls. each pointer ys ls b) (pointer_leaves_one y x tokens m' m d' d) more') f'

abbrev pointers_part : Part
pointers_part = record { begins = λ tokens rest. (spaces : List ℕ) × pointers_here spaces tokens rest; stops = PointersRefused }

once_pointers : Once pointers_part
once_pointers = record { refuses = λ tokens r s d e. behind_once d.spaces e.spaces tokens d.middle e.middle r s d.before d.fails e.before e.fails }

-- a type of one word
abbrev plain_part : Part
plain_part = record {
  begins = λ tokens rest. (names : List NameText) × (base : TypeBase) × IsOneWord base × type_base names base tokens rest;
  stops = λ tokens refusal. NoWordType tokens × (refusal ≡ record { rule = 3; left = length tokens });
}

exact_plain : IsExact plain_part
exact_plain = record {
  one = λ tokens a b d e. base_one (length tokens) (one_at (length tokens)) d.0 e.0 d.1 e.1 tokens a b (omega arith) d.3 e.3;
  none = λ tokens rest refusal s d. s.0 d.0 d.1 d.2 rest d.3;
  ends = λ tokens rest d. shortens_ends (type_base d.0 d.1) (base_shortens d.0 d.1) tokens rest d.3;
}

-- what stands in brackets
module _ (n : ℕ) where
  abbrev counted_part : ℕ → Part
  counted_part close = number_part then word_part (codes "x") then small_type n then mark_part close

  abbrev next_part : Part
  next_part = mark_part 44 then small_type n

  abbrev more_part : Part
  more_part = repeated (mark 44) next_part

  abbrev listed_part : Part
  listed_part = small_type n then more_part then mark_part 125

  abbrev members_part : Part
  members_part = either (mark 125) (mark_part 125) listed_part

  abbrev angle_part : Part
  angle_part = either (mark 123) (mark_part 123 then members_part then mark_part 62) (counted_part 62)

  abbrev named_part : Part
  named_part = either (any_of LocalToken) type_name_part plain_part

  abbrev braced_part : Part
  braced_part = either (mark 123) (mark_part 123 then members_part) named_part

  abbrev angled_part : Part
  angled_part = either (mark 60) (mark_part 60 then angle_part) braced_part

  abbrev base_part : Part
  base_part = either (mark 91) (mark_part 91 then counted_part 93) angled_part

  opens_mark : (code : ℕ) (p : Part) (tokens rest : List Lexeme) → (mark_part code then p).begins tokens rest → Begins (mark code) tokens
  unfolding ◌>>◌
  opens_mark code p tokens rest (m, here, _) = (m, here)

  name_opens : (tokens rest : List Lexeme) → type_name_part.begins tokens rest → Begins (any_of LocalToken) tokens
  name_opens tokens rest (names, name, (l, is, kind, _)) = (rest, (l, is, kind, tt))

  exact_counted : (close : ℕ) → IsExact (counted_part close)
  exact_counted close = exact_then _ _ exact_number (exact_then _ _ (exact_word (codes "x")) (exact_then _ _ (exact_small n) (exact_mark close)))

  exact_next : IsExact next_part
  exact_next = exact_then _ _ (exact_mark 44) (exact_small n)

  exact_more : IsExact more_part
  exact_more = exact_repeated (mark 44) next_part exact_next (opens_mark 44 (small_type n))

  exact_members : IsExact members_part
  exact_members = exact_either (mark 125) (mark_part 125) listed_part (exact_mark 125) (exact_then _ _ (exact_small n) (exact_then more_part (mark_part 125) exact_more (exact_mark 125))) (λ tokens rest d. (rest, d))

  exact_angle : IsExact angle_part
  exact_angle =
      exact_either (mark 123) (mark_part 123 then members_part then mark_part 62) (counted_part 62)
      (exact_then _ _ (exact_mark 123) (exact_then members_part (mark_part 62) exact_members (exact_mark 62))) (exact_counted 62) (opens_mark 123 (members_part then mark_part 62))

  exact_named : IsExact named_part
  exact_named = exact_either (any_of LocalToken) type_name_part plain_part exact_type_name exact_plain name_opens

  exact_braced : IsExact braced_part
  exact_braced = exact_either (mark 123) (mark_part 123 then members_part) named_part (exact_then (mark_part 123) members_part (exact_mark 123) exact_members) exact_named (opens_mark 123 members_part)

  exact_angled : IsExact angled_part
  exact_angled = exact_either (mark 60) (mark_part 60 then angle_part) braced_part (exact_then (mark_part 60) angle_part (exact_mark 60) exact_angle) exact_braced (opens_mark 60 angle_part)

  exact_base : IsExact base_part
  exact_base = exact_either (mark 91) (mark_part 91 then counted_part 93) angled_part (exact_then (mark_part 91) (counted_part 93) (exact_mark 91) (exact_counted 93)) exact_angled (opens_mark 91 (counted_part 93))

  -- derivations as parts
  pub commas : (names : List NameText) (ts : List LlType) (tokens rest : List Lexeme) → each_behind_comma (ty_here names) ts tokens rest → times (length ts) next_part.begins tokens rest
  unfolding ◌>>◌
  commas names [] tokens rest same = same
  commas names (t ∷ ts) tokens rest (m, comma, (k, d, more)) = (k, (m, comma, (names, t, d)), commas names ts k rest more)

  no_longer : (names : List NameText) (ts : List LlType) (tokens rest : List Lexeme) → each_behind_comma (ty_here names) ts tokens rest → length rest ≤ length tokens
  unfolding ◌>>◌
  no_longer names [] tokens rest same = let e : length tokens ≡ length rest = ap length same in omega arith
  no_longer names (t ∷ ts) tokens rest (m, comma, (k, d, more)) =
      let less : length m < length tokens = (token_shortens _ _ tokens m comma).less in
      let less' : length k < length m = (type_shortens names t m k d).less in
      let le : length rest ≤ length k = no_longer names ts k rest more in
      omega arith

  is_counted : (close : ℕ) (names : List NameText) (c : Counted) (tokens rest : List Lexeme) → counted close names c tokens rest → (counted_part close).begins tokens rest
  unfolding ◌>>◌
  is_counted close names c tokens rest (a, count, (b, w, (e, d, end))) = (a, (c.count, count), (b, w, (e, (names, c.part, d), end)))

  is_members : (names : List NameText) (ts : List LlType) (tokens rest : List Lexeme) → members names ts tokens rest → members_part.begins tokens rest
  unfolding ◌>>◌
  is_members names [] tokens rest (m, same, close) = inl (subst (λ ls. mark 125 ls rest) (sym same) close)
  is_members names (t ∷ ts) tokens rest (m, (b, d, more), close) =
      inr (λ k brace. type_no_brace names t tokens b k d brace, (b, (names, t, d), (m, (length ts, commas names ts b m more, λ k comma. marks_apart 44 125 m k rest (λ e. omega arith) comma close), close)))

  no_mark : (code : ℕ) (tokens b : List Lexeme) → any_of LocalToken tokens b → EndsNowhere (mark code) tokens
  no_mark code tokens b d k m = kinds_apart LocalToken Punct _ _ tokens b k (λ e. cc) d m

  other_mark : (c d : ℕ) (tokens b : List Lexeme) → (c ≡ d → ⊥) → mark c tokens b → EndsNowhere (mark d) tokens
  other_mark c d tokens b differ m k m' = marks_apart c d tokens b k differ m m'

  is_base : (o : TypeOpening) (names : List NameText) (tokens inside rest : List Lexeme) → opens o tokens inside → behind o names inside rest → base_part.begins tokens rest
  unfolding ◌>>◌
  is_base Array names tokens inside rest m (c, d) = inl (inside, m, is_counted 93 names c inside rest d)
  is_base Vector names tokens inside rest (m, nowhere) (c, d) =
      inr (other_mark 60 91 tokens inside (λ e. omega arith) m, inl (inside, m, inr (nowhere, is_counted 62 names c inside rest d)))
  is_base Struct names tokens inside rest m (ts, d) =
      inr (other_mark 123 91 tokens inside (λ e. omega arith) m, inr (other_mark 123 60 tokens inside (λ e. omega arith) m, inl (inside, m, is_members names ts inside rest d)))
  is_base Packed names tokens inside rest (p, m, brace) (ts, (q, d, close)) =
      inr (other_mark 60 91 tokens p (λ e. omega arith) m, inl (p, m, inl (inside, brace, (q, is_members names ts inside q d, close))))
  is_base Named names tokens inside rest (same, (b, name)) (x, d) =
      inr (no_mark 91 tokens b name, inr (no_mark 60 tokens b name, inr (no_mark 123 tokens b name, inl (names, x, subst (λ ls. type_name names x ls rest) (sym same) d))))
  is_base Plain names tokens inside rest (same, plain) (base, one, d) =
      inr (plain.no_array, inr (plain.no_angle, inr (plain.no_brace, inr (plain.no_name, (names, base, one, subst (λ ls. type_base names base ls rest) (sym same) d)))))

  -- refusals as those of parts
  counted_stops : (close : ℕ) {tokens : List Lexeme} {refusal : Refusal} → length tokens < n → CountedFails close tokens refusal → (counted_part close).stops tokens refusal
  counted_stops close less (no_count none) = inl none
  counted_stops close less (no_times b count d unexpected) = inr (b, (count, d), inl unexpected)
  counted_stops close {tokens} less (no_part b inside count d w fails) =
      let less_b : length b < length tokens = (token_shortens _ _ tokens b d).less in
      let less_i : length inside < length b = (token_shortens _ _ b inside w).less in
      inr (b, (count, d), inr (inside, w, inl (omega arith, fails)))
  counted_stops close less (no_close b inside end count names part d w t unexpected) = inr (b, (count, d), inr (inside, w, inr (end, (names, part, t), unexpected)))

  members_stop : {tokens : List Lexeme} {refusal : Refusal} → length tokens < n → MembersFail tokens refusal → members_part.stops tokens refusal
  unfolding ◌>>◌
  members_stop less (no_first nowhere fails) = inr (nowhere, inl (less, fails))
  members_stop {tokens} less (no_next end b names [] none comma fails) = absurd none
  members_stop {tokens} less (no_next end b names (t ∷ ts) (m, d, more) comma fails) =
      let less_m : length m < length tokens = (type_shortens names t tokens m d).less in
      let le : length end ≤ length m = no_longer names ts m end more in
      let less_b : length b < length end = (token_shortens _ _ end b comma).less in
      inr (λ k brace. type_no_brace names t tokens m k d brace, inr (m, (names, t, d), inl (length ts, end, commas names ts m end more, (b, comma), inr (b, comma, (omega arith, fails)))))
  members_stop {tokens} less (no_end end names [] none no_comma unexpected) = absurd none
  members_stop {tokens} less (no_end end names (t ∷ ts) (m, d, more) no_comma unexpected) =
      inr (λ k brace. type_no_brace names t tokens m k d brace, inr (m, (names, t, d), inr (end, (length ts, commas names ts m end more, no_comma), unexpected)))

  type_stops : {tokens : List Lexeme} {refusal : Refusal} → length tokens < suc n → TypeFails tokens refusal → (base_part then pointers_part).stops tokens refusal
  unfolding ◌>>◌
  type_stops less (no_type (same, plain) nowhere place) = inl (inr (plain.no_array, inr (plain.no_angle, inr (plain.no_brace, inr (plain.no_name, (nowhere, place))))))
  type_stops {tokens} less (no_name (same, (b, name)) fails) =
      inl (inr (no_mark 91 tokens b name, inr (no_mark 60 tokens b name, inr (no_mark 123 tokens b name, inl ((b, name), fails)))))
  type_stops {tokens} less (in_array inside m fails) =
      let less' : length inside < length tokens = (token_shortens _ _ tokens inside m).less in
      inl (inl ((inside, m), inr (inside, m, counted_stops 93 (omega arith) fails)))
  type_stops {tokens} less (in_vector inside (m, nowhere) fails) =
      let less' : length inside < length tokens = (token_shortens _ _ tokens inside m).less in
      inl (inr (other_mark 60 91 tokens inside (λ e. omega arith) m, inl ((inside, m), inr (inside, m, inr (nowhere, counted_stops 62 (omega arith) fails)))))
  type_stops {tokens} less (in_struct inside m fails) =
      let less' : length inside < length tokens = (token_shortens _ _ tokens inside m).less in
      inl (inr (other_mark 123 91 tokens inside (λ e. omega arith) m, inr (other_mark 123 60 tokens inside (λ e. omega arith) m, inl ((inside, m), inr (inside, m, members_stop (omega arith) fails)))))
  type_stops {tokens} less (in_packed inside (p, m, brace) fails) =
      let less_p : length p < length tokens = (token_shortens _ _ tokens p m).less in
      let less_i : length inside < length p = (token_shortens _ _ p inside brace).less in
      inl (inr (other_mark 60 91 tokens p (λ e. omega arith) m, inl ((p, m), inr (p, m, inl ((inside, brace), inr (inside, brace, inl (members_stop (omega arith) fails)))))))
  type_stops {tokens} less (behind_packed inside b names ts (p, m, brace) d unexpected) =
      inl (inr (other_mark 60 91 tokens p (λ e. omega arith) m, inl ((p, m), inr (p, m, inl ((inside, brace), inr (inside, brace, inr (b, is_members names ts inside b d, unexpected)))))))
  type_stops {tokens} less (in_pointers b names base d refused) =
      let found : Opened names tokens b = opened_type names base tokens b d in
      inr (b, is_base found.opening names tokens found.inside b found.opened found.goes_on, refused)

  -- a type of parts
  module _ (once : Once (small_type n)) where
    once_counted : (close : ℕ) → Once (counted_part close)
    once_counted close =
        once_then _ _ exact_number once_number (once_then _ _ (exact_word (codes "x")) (once_word (codes "x")) (once_then (small_type n) (mark_part close) (exact_small n) once (once_mark close)))

    once_members : Once members_part
    once_members =
        once_either (mark 125) (mark_part 125) listed_part (once_mark 125)
        (once_then (small_type n) (more_part then mark_part 125) (exact_small n) once
        (once_then more_part (mark_part 125) exact_more (once_repeated (mark 44) next_part exact_next (once_then (mark_part 44) (small_type n) (exact_mark 44) (once_mark 44) once)) (once_mark 125)))

    once_angle : Once angle_part
    once_angle =
        once_either (mark 123) (mark_part 123 then members_part then mark_part 62) (counted_part 62)
        (once_then (mark_part 123) (members_part then mark_part 62) (exact_mark 123) (once_mark 123) (once_then members_part (mark_part 62) exact_members once_members (once_mark 62))) (once_counted 62)

    once_base : Once base_part
    once_base =
        once_either (mark 91) (mark_part 91 then counted_part 93) angled_part (once_then (mark_part 91) (counted_part 93) (exact_mark 91) (once_mark 91) (once_counted 93))
        (once_either (mark 60) (mark_part 60 then angle_part) braced_part (once_then (mark_part 60) angle_part (exact_mark 60) (once_mark 60) once_angle)
        (once_either (mark 123) (mark_part 123 then members_part) named_part (once_then (mark_part 123) members_part (exact_mark 123) (once_mark 123) once_members)
        (once_either (any_of LocalToken) type_name_part plain_part once_type_name (record { refuses = λ tokens r s d e. d.1 ∙ sym e.1 }))))

    once_whole : Once (base_part then pointers_part)
    once_whole = once_then base_part pointers_part exact_base once_base once_pointers

once_below : (n : ℕ) → Once (small_type n)
once_below zero = record { refuses = λ tokens r s d e. none tokens d.0 }
  where
    none : {A : Type 0} (tokens : List Lexeme) → length tokens < zero → A
    none tokens less = absurd (omega arith)
once_below (suc n) = record { refuses = λ tokens r s d e. (once_whole n (once_below n)).refuses tokens r s (type_stops n d.0 d.1) (type_stops n e.0 e.1) }

pub once_type : Once type_part
once_type = record { refuses = λ tokens r s d e. (once_below (suc (length tokens))).refuses tokens r s (omega arith, d) (omega arith, e) }
