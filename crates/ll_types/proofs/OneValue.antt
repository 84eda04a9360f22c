-- What a value leaves of the tokens is one list.
use Rattle.std.proofs.Common.{◌≡◌, ℕ, zero, suc, ◌<◌, ◌≤◌, Bool, true, false, List, [], ◌∷◌, length, codes, sym, ap, ◌∙◌, subst, inl, inr, arith}
use Rattle.ll_tokens.specs.Tokens.{Lexeme}
use Rattle.ll_tree.specs.declared.name.NameText.{NameText}
use Rattle.ll_tree.specs.declared.ty.LlType.{LlType}
use Rattle.ll_tree.specs.declared.value.TypedValue.{TypedValue}
use Rattle.ll_tree.specs.declared.value.Value.{Value}
use Rattle.ll_parser.specs.GrammarTypes.{pointer}
use Rattle.ll_parser.specs.GrammarValues.{if_word, typed, value}
use Rattle.ll_parser.specs.NameReading.{any_of}
use Rattle.ll_parser.specs.Productions.{◌>>◌, word, mark, each, each_behind_comma}
use Rattle.ll_parser.specs.Reading.{EndsNowhere}
use Rattle.ll_parser.proofs.PointerFacts.{pointer_begins, word_no_mark}
use Rattle.ll_parser.proofs.SpaceFacts.{mark_leaves_one, word_leaves_one}
use Rattle.ll_parser.proofs.TokenFacts.{same_rest}
use Rattle.ll_types.specs.declared.openings.TypeOpening.TheVariants.{Struct}
use Rattle.ll_types.specs.declared.values.Conversion.{Conversion}
use Rattle.ll_types.specs.declared.values.Path.{Path}
use Rattle.ll_types.specs.SingleValues.{single}
use Rattle.ll_types.specs.TypeParts.{ty_here, members}
use Rattle.ll_types.specs.ValueParts.{EndsMember, IsLane, empty, before_end, conversion, operands, parts, path}
use Rattle.ll_types.proofs.OneType.{type_no_brace, type_one, type_shortens}
use Rattle.ll_types.proofs.SingleFacts.{kind_of, single_token}
use Rattle.ll_types.proofs.Tokens.{token_shortens, marks_apart, mark_no_pointer}
use Rattle.ll_types.proofs.TypeOpened.{behind_known, type_no_mark}
use Rattle.ll_types.proofs.ValueForms.{Form, Formed, arrays, structs, angles, paths, casts, singles, forms, inside_form, inside_known, formed_value, lanes_or_members, value_no_mark, value_no_pointer}
use Rattle.ll_types.proofs.ValueRows.{typed_shortens}

-- a value and its type, apart
pub typed_apart : (names : List NameText) (v : TypedValue) (tokens rest : List Lexeme) → typed names v tokens rest → (m : List Lexeme) × ty_here names v.ty tokens m × value names v.value v.ty m rest
unfolding ◌>>◌
typed_apart names v tokens rest (m, t, d) = (m, (t, value_no_pointer v.ty names v.value m rest d), d)

-- a typed value begins with no mark but an opening one
pub typed_no_mark : (c : ℕ) (names : List NameText) (v : TypedValue) (tokens a b : List Lexeme) → (91 ≡ c → ⊥) → (60 ≡ c → ⊥) → (123 ≡ c → ⊥) → typed names v tokens a → mark c tokens b → ⊥
unfolding ◌>>◌
typed_no_mark c names v tokens a b no91 no60 no123 (m, (p, base, ps), d) close = type_no_mark c names v.ty.base tokens p b no91 no60 no123 base close

-- a mark that ends a list of values
pub record Closes (c : ℕ) : Type 0 where
  pub no_comma : 44 ≡ c → ⊥
  pub no91 : 91 ≡ c → ⊥
  pub no60 : 60 ≡ c → ⊥
  pub no123 : 123 ≡ c → ⊥

pub closes_93 : Closes 93
closes_93 = record { no_comma = λ e. omega arith; no91 = λ e. omega arith; no60 = λ e. omega arith; no123 = λ e. omega arith }

pub closes_125 : Closes 125
closes_125 = record { no_comma = λ e. omega arith; no91 = λ e. omega arith; no60 = λ e. omega arith; no123 = λ e. omega arith }

pub closes_62 : Closes 62
closes_62 = record { no_comma = λ e. omega arith; no91 = λ e. omega arith; no60 = λ e. omega arith; no123 = λ e. omega arith }

pub closes_41 : Closes 41
closes_41 = record { no_comma = λ e. omega arith; no91 = λ e. omega arith; no60 = λ e. omega arith; no123 = λ e. omega arith }

abbrev pub One : ℕ → Type 0
One n = (names other : List NameText) (v w : TypedValue) (tokens a b : List Lexeme) → length tokens ≤ n → typed names v tokens a → typed other w tokens b → a ≡ b

-- behind `{` of a vector's first lane
lane_members : (names : List NameText) (v : TypedValue) (m p q rest : List Lexeme) (ts : List LlType) → members names ts m p → each pointer v.ty.pointers p q → value names v.value v.ty q rest → IsLane m
unfolding ◌>>◌
lane_members names v m p q rest [] (e, same, close) ps d = empty p (subst (λ ls. mark 125 ls p) (sym same) close) (λ r end. no_end v.ty.pointers ps r end)
  where
    no_end : (xs : List ℕ) → each pointer xs p q → EndsNowhere (mark 62) p
    no_end [] same' r end = value_no_mark 62 v.ty names v.value p rest r (λ e. omega arith) (λ e. omega arith) (λ e. omega arith) (subst (λ ls. value names v.value v.ty ls rest) (sym same') d) end
    no_end (x ∷ xs) (k, one, more) r end = pointer_begins x p k one (mark_no_pointer 62 p r (λ e. omega arith) end)
lane_members names v m p q rest (t ∷ []) (e, (b, one, same), close) ps d = before_end names t b one (p, inr (subst (λ ls. mark 125 ls p) (sym same) close))
lane_members names v m p q rest (t ∷ u ∷ ts) (e, (b, one, (a, comma, _)), close) ps d = before_end names t b one (a, inl comma)

pub lanes_begin : (names : List NameText) (vs : List TypedValue) (tokens inside rest : List Lexeme) → parts 62 names vs tokens rest → mark 123 tokens inside → IsLane inside
unfolding ◌>>◌
lanes_begin names [] tokens inside rest (e, same, close) brace = absurd (marks_apart 123 62 tokens inside rest (λ q. omega arith) brace (subst (λ ls. mark 62 ls rest) (sym same) close))
lanes_begin names (v ∷ vs) tokens inside rest (e, (b, (q, (p, base, ps), d), more), close) brace =
    let goes_on = behind_known Struct names v.ty.base tokens inside p brace base in
    lane_members names v inside p q b goes_on.0 goes_on.1 ps d

pub members_no_lane : (names : List NameText) (vs : List TypedValue) (tokens end rest : List Lexeme) → parts 125 names vs tokens end → mark 62 end rest → IsLane tokens → ⊥
unfolding ◌>>◌
members_no_lane names [] tokens end rest (e, same, close) last (empty behind brace nowhere) =
    nowhere rest (subst (λ ls. mark 62 ls rest) (mark_leaves_one 125 tokens end behind (subst (λ ls. mark 125 ls end) (sym same) close) brace) last)
members_no_lane names [] tokens end rest (e, same, close) last (before_end ns t b one ends) =
    type_no_brace ns t tokens b end one (subst (λ ls. mark 125 ls end) (sym same) close)
members_no_lane names (v ∷ vs) tokens end rest (e, (b, d, more), close) last (empty behind brace nowhere) =
    typed_no_mark 125 names v tokens b behind (λ q. omega arith) (λ q. omega arith) (λ q. omega arith) d brace
members_no_lane names (v ∷ vs) tokens end rest (e, (b, d, more), close) last (before_end ns t m one ends) =
    let split : (p : List Lexeme) × ty_here names v.ty tokens p × value names v.value v.ty p b = typed_apart names v tokens b d in
    let same : split.0 ≡ m = type_one names ns v.ty t tokens split.0 m split.1 one in
    none m (subst (λ ls. value names v.value v.ty ls b) same split.2) ends
  where
    none : (m : List Lexeme) → value names v.value v.ty m b → EndsMember m → ⊥
    none m d' (r, inl comma) = value_no_mark 44 v.ty names v.value m b r (λ q. omega arith) (λ q. omega arith) (λ q. omega arith) d' comma
    none m d' (r, inr brace) = value_no_mark 125 v.ty names v.value m b r (λ q. omega arith) (λ q. omega arith) (λ q. omega arith) d' brace

module _ (n : ℕ) (one : One n) where
  -- a front of the values behind commas is a front of all others, before a mark
  pub peel : (c : ℕ) → Closes c → (names other : List NameText) (vs ws : List TypedValue) (tokens middle end rest : List Lexeme) → length tokens ≤ n → each_behind_comma (typed names) vs tokens middle → each_behind_comma (typed other) ws tokens end → mark c end rest → (more : List TypedValue) × each_behind_comma (typed other) more middle end
  unfolding ◌>>◌
  peel c closes names other [] ws tokens middle end rest le same d close = (ws, subst (λ ls. each_behind_comma (typed other) ws ls end) same d)
  peel c closes names other (v ∷ vs) [] tokens middle end rest le (a, comma, _) same close =
      absurd (marks_apart 44 c tokens a rest closes.no_comma comma (subst (λ ls. mark c ls rest) (sym same) close))
  peel c closes names other (v ∷ vs) (w ∷ ws) tokens middle end rest le (a, comma, (b, d, more)) (a', comma', (b', d', more')) close =
      let same : a' ≡ a = mark_leaves_one 44 tokens a' a comma' comma in
      let here : typed other w a b' = subst (λ ls. typed other w ls b') same d' in
      let shorter : length a < length tokens = (token_shortens _ _ tokens a comma).less in
      let same' : b' ≡ b = one other names w v a b' b (omega arith) here d in
      let less : length b < length a = (typed_shortens names v a b d).less in
      peel c closes names other vs ws b middle end rest (omega arith) more (subst (λ ls. each_behind_comma (typed other) ws ls end) same' more') close

  nothing_more : (c : ℕ) → Closes c → (other : List NameText) (more : List TypedValue) (middle end a b : List Lexeme) → each_behind_comma (typed other) more middle end → mark c middle a → mark c end b → a ≡ b
  unfolding ◌>>◌
  nothing_more c closes other [] middle end a b same close close' = mark_leaves_one c middle a b close (subst (λ ls. mark c ls b) (sym same) close')
  nothing_more c closes other (w ∷ ws) middle end a b (k, comma, _) close close' = absurd (marks_apart 44 c middle k a closes.no_comma comma close)

  pub ends_one : (c : ℕ) → Closes c → (names other : List NameText) (vs ws : List TypedValue) (tokens middle end a b : List Lexeme) → length tokens ≤ n → each_behind_comma (typed names) vs tokens middle → mark c middle a → each_behind_comma (typed other) ws tokens end → mark c end b → a ≡ b
  ends_one c closes names other vs ws tokens middle end a b le d close e close' =
      let left : (more : List TypedValue) × each_behind_comma (typed other) more middle end = peel c closes names other vs ws tokens middle end b le d e close' in
      nothing_more c closes other left.0 middle end a b left.1 close close'

  pub parts_one : (c : ℕ) → Closes c → (names other : List NameText) (vs ws : List TypedValue) (tokens a b : List Lexeme) → length tokens ≤ n → parts c names vs tokens a → parts c other ws tokens b → a ≡ b
  unfolding ◌>>◌
  parts_one c closes names other [] [] tokens a b le (m, same, close) (m', same', close') =
      mark_leaves_one c tokens a b (subst (λ ls. mark c ls a) (sym same) close) (subst (λ ls. mark c ls b) (sym same') close')
  parts_one c closes names other [] (w ∷ ws) tokens a b le (m, same, close) (m', (k, d, more), close') =
      absurd (typed_no_mark c other w tokens k a closes.no91 closes.no60 closes.no123 d (subst (λ ls. mark c ls a) (sym same) close))
  parts_one c closes names other (v ∷ vs) [] tokens a b le (m, (k, d, more), close) (m', same, close') =
      absurd (typed_no_mark c names v tokens k b closes.no91 closes.no60 closes.no123 d (subst (λ ls. mark c ls b) (sym same) close'))
  parts_one c closes names other (v ∷ vs) (w ∷ ws) tokens a b le (m, (k, d, more), close) (m', (k', d', more'), close') =
      let same : k' ≡ k = one other names w v tokens k' k le d' d in
      let less : length k < length tokens = (typed_shortens names v tokens k d).less in
      ends_one c closes names other vs ws k m m' a b (omega arith) more close (subst (λ ls. each_behind_comma (typed other) ws ls m') same more') close'

  lanes_one : (names other : List NameText) (tokens a b : List Lexeme) → length tokens ≤ n → lanes_or_members names tokens a → lanes_or_members other tokens b → a ≡ b
  unfolding ◌>>◌
  lanes_one names other tokens a b le (vs, inl d) (ws, inl e) = parts_one 62 closes_62 names other vs ws tokens a b le d e
  lanes_one names other tokens a b le (vs, inl d) (ws, inr (m, brace, (p, e, end))) = absurd (members_no_lane other ws m p b e end (lanes_begin names vs tokens m a d brace))
  lanes_one names other tokens a b le (vs, inr (m, brace, (p, e, end))) (ws, inl d) = absurd (members_no_lane names vs m p a e end (lanes_begin other ws tokens m b d brace))
  lanes_one names other tokens a b le (vs, inr (m, brace, (p, d, end))) (ws, inr (m', brace', (p', d', end'))) =
      let same : m' ≡ m = mark_leaves_one 123 tokens m' m brace' brace in
      let less : length m < length tokens = (token_shortens _ _ tokens m brace).less in
      let same' : p' ≡ p = parts_one 125 closes_125 other names ws vs m p' p (omega arith) (subst (λ ls. parts 125 other ws ls p') same d') d in
      mark_leaves_one 62 p a b end (subst (λ ls. mark 62 ls b) same' end')

  inbounds_one : (i j : Bool) (tokens a b c d : List Lexeme) → if_word (codes "inbounds") i tokens a → mark 40 a b → if_word (codes "inbounds") j tokens c → mark 40 c d → a ≡ c
  inbounds_one true true tokens a b c d w open' w' open'' = word_leaves_one _ tokens a c w w'
  inbounds_one false false tokens a b c d same open' same' open'' = sym same ∙ same'
  inbounds_one true false tokens a b c d w open' same open'' = absurd (word_no_mark _ 40 tokens a d w (subst (λ ls. mark 40 ls d) (sym same) open''))
  inbounds_one false true tokens a b c d same open' w open'' = absurd (word_no_mark _ 40 tokens c b w (subst (λ ls. mark 40 ls b) (sym same) open'))

  pub operands_one : (names other : List NameText) (vs ws : List TypedValue) (tokens a b : List Lexeme) → length tokens ≤ n → operands names vs tokens a → operands other ws tokens b → a ≡ b
  unfolding ◌>>◌
  operands_one names other vs ws tokens a b le (m, (two, d), close) (m', (two', d'), close') = ends_one 41 closes_41 names other vs ws tokens m m' a b le d close d' close'

  path_one : (names other : List NameText) (p q : Path) (tokens a b : List Lexeme) → length tokens ≤ n → path names p tokens a → path other q tokens b → a ≡ b
  unfolding ◌>>◌
  path_one names other p q tokens a b le (k, w, (l, bracket, (m, t, d))) (k', w', (l', bracket', (m', t', d'))) =
      let same : k' ≡ k = inbounds_one q.inbounds p.inbounds tokens k' l' k l w' bracket' w bracket in
      let same' : l' ≡ l = mark_leaves_one 40 k l' l (subst (λ ls. mark 40 ls l') same bracket') bracket in
      let same'' : m' ≡ m = type_one other names q.through p.through l m' m (subst (λ ls. ty_here other q.through ls m') same' t') t in
      let le_k : length k ≤ length tokens = inbounds_shorter p.inbounds w in
      let less_l : length l < length k = (token_shortens _ _ k l bracket).less in
      let less_m : length m < length l = (type_shortens names p.through l m t).less in
      operands_one names other p.operands q.operands m a b (omega arith) d (subst (λ ls. operands other q.operands ls b) same'' d')
    where
      inbounds_shorter : (i : Bool) → if_word (codes "inbounds") i tokens k → length k ≤ length tokens
      inbounds_shorter true x = let less : length k < length tokens = (token_shortens _ _ tokens k x).less in omega arith
      inbounds_shorter false x = let e : length tokens ≡ length k = ap length x in omega arith

  conversion_one : (names other : List NameText) (c e : Conversion) (tokens a b : List Lexeme) → length tokens ≤ n → conversion names c tokens a → conversion other e tokens b → a ≡ b
  unfolding ◌>>◌
  conversion_one names other c e tokens a b le (k, bracket, (l, d, (m, w, (p, t, close)))) (k', bracket', (l', d', (m', w', (p', t', close')))) =
      let same : k' ≡ k = mark_leaves_one 40 tokens k' k bracket' bracket in
      let less : length k < length tokens = (token_shortens _ _ tokens k bracket).less in
      let same' : l' ≡ l = one other names e.operand c.operand k l' l (omega arith) (subst (λ ls. typed other e.operand ls l') same d') d in
      let same'' : m' ≡ m = word_leaves_one _ l m' m (subst (λ ls. word (codes "to") ls m') same' w') w in
      let same_p : p' ≡ p = type_one other names e.to c.to m p' p (subst (λ ls. ty_here other e.to ls p') same'' t') t in
      mark_leaves_one 41 p a b close (subst (λ ls. mark 41 ls b) same_p close')

  single_one : (t u : LlType) (names other : List NameText) (v w : Value) (tokens a b : List Lexeme) → single t names v tokens a → single u other w tokens b → a ≡ b
  single_one t u names other v w tokens a b d e = from (single_token t names v tokens a d) (single_token u other w tokens b e)
    where
      from : any_of (kind_of v) tokens a → any_of (kind_of w) tokens b → a ≡ b
      from (l, is, _, _) (m, is', _, _) = same_rest l m a b (sym is ∙ is')

  inside_one : (f : Form) (t u : LlType) (names other : List NameText) (tokens inside a b : List Lexeme) → length tokens ≤ suc n → forms f tokens inside → inside_form f t names inside a → inside_form f u other inside b → a ≡ b
  inside_one arrays t u names other tokens inside a b le m d e =
      let less : length inside < length tokens = (token_shortens _ _ tokens inside m).less in parts_one 93 closes_93 names other d.0 e.0 inside a b (omega arith) d.1 e.1
  inside_one structs t u names other tokens inside a b le m d e =
      let less : length inside < length tokens = (token_shortens _ _ tokens inside m).less in parts_one 125 closes_125 names other d.0 e.0 inside a b (omega arith) d.1 e.1
  inside_one angles t u names other tokens inside a b le m d e =
      let less : length inside < length tokens = (token_shortens _ _ tokens inside m).less in lanes_one names other inside a b (omega arith) d e
  inside_one paths t u names other tokens inside a b le m d e =
      let less : length inside < length tokens = (token_shortens _ _ tokens inside m).less in path_one names other d.0 e.0 inside a b (omega arith) d.1 e.1
  inside_one casts t u names other tokens inside a b le (kind, one', m) d e =
      let less : length inside < length tokens = (token_shortens _ _ tokens inside m).less in conversion_one names other d.0 e.0 inside a b (omega arith) d.1 e.1
  inside_one singles t u names other tokens inside a b le m (v, d) (w, e) = single_one t u names other v w inside a b d e

  pub value_one_at : (t u : LlType) (names other : List NameText) (v w : Value) (tokens a b : List Lexeme) → length tokens ≤ suc n → value names v t tokens a → value other w u tokens b → a ≡ b
  value_one_at t u names other v w tokens a b le d e =
      let found : Formed t names tokens a = formed_value t names v tokens a d in
      inside_one found.form t u names other tokens found.inside a b le found.formed found.goes_on (inside_known found.form u other w tokens found.inside b found.formed e)

one_up_to : (n : ℕ) → One n
one_up_to zero names other v w tokens a b le d e =
    let less : length a < length tokens = (typed_shortens names v tokens a d).less in absurd (omega arith)
one_up_to (suc n) names other v w tokens a b le d e =
    let split : (m : List Lexeme) × ty_here names v.ty tokens m × value names v.value v.ty m a = typed_apart names v tokens a d in
    let split' : (m : List Lexeme) × ty_here other w.ty tokens m × value other w.value w.ty m b = typed_apart other w tokens b e in
    let same : split'.0 ≡ split.0 = type_one other names w.ty v.ty tokens split'.0 split.0 split'.1 split.1 in
    let less : length split.0 < length tokens = (type_shortens names v.ty tokens split.0 split.1).less in
    value_one_at n (one_up_to n) v.ty w.ty names other v.value w.value split.0 a b (omega arith) split.2 (subst (λ ls. value other w.value w.ty ls b) same split'.2)

pub typed_one : (names other : List NameText) (v w : TypedValue) (tokens a b : List Lexeme) → typed names v tokens a → typed other w tokens b → a ≡ b
typed_one names other v w tokens a b d e = one_up_to (length tokens) names other v w tokens a b (omega arith) d e

pub one_at : (n : ℕ) → One n
one_at n names other v w tokens a b le d e = typed_one names other v w tokens a b d e

pub value_one : (names other : List NameText) (v w : Value) (t u : LlType) (tokens a b : List Lexeme) → value names v t tokens a → value other w u tokens b → a ≡ b
value_one names other v w t u tokens a b d e = value_one_at (length tokens) (one_at _) t u names other v w tokens a b (omega arith) d e
