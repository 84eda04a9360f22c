-- A part leaves one list of tokens, which is an end of them, and tokens that are refused for a part begin with none.
use Rattle.std.proofs.Common.{◌≡◌, ℕ, zero, suc, List, sym, ap, ◌∙◌, subst, inl, inr, Option}
use Rattle.ll_tokens.specs.Tokens.{Lexeme}
use Rattle.ll_tree.specs.declared.name.NameText.{NameText}
use Rattle.ll_tree.specs.declared.ty.LlType.{LlType}
use Rattle.ll_tree.specs.Types.{int_width}
use Rattle.ll_parser.specs.declared.refusal.Refusal.{Refusal}
use Rattle.ll_parser.specs.Productions.{Production, ◌>>◌, word}
use Rattle.ll_parser.specs.Reading.{EndsNowhere}
use Rattle.ll_parser.proofs.EndFacts.{ends_same, ends_then, token_ends}
use Rattle.ll_parser.proofs.SpaceFacts.{mark_leaves_one, number_leaves_one, word_leaves_one}
use Rattle.ll_parser.proofs.TokenFacts.{same_first, token_leaves_one}
use Rattle.ll_types.specs.TypeParts.{ty_here}
use Rattle.ll_types.proofs.NoTypes.{none_type}
use Rattle.ll_types.proofs.NoValues.{none_typed, none_value}
use Rattle.ll_types.proofs.OneType.{type_one, type_shortens}
use Rattle.ll_types.proofs.OneValue.{typed_one, value_one}
use Rattle.ll_types.proofs.Tokens.{EndsBy, seq_ends, shortens_ends, token_end}
use Rattle.ll_types.proofs.ValueRows.{typed_shortens, value_shortens}
use Rattle.ll_types.proofs.Widths.{one_width, retyped}
use Rattle.ll_operands.specs.Parts.{Begins, Part, either, global_part, local_part, mark_part, nothing_part, number_part, one_word, optional, repeated, ◌then◌, times, type_part, type_then, typed_part, value_part, word_part, word_then}

pub record IsExact (p : Part) : Type 0 where
  pub one : (tokens a b : List Lexeme) → p.begins tokens a → p.begins tokens b → a ≡ b
  pub none : (tokens rest : List Lexeme) (refusal : Refusal) → p.stops tokens refusal → p.begins tokens rest → ⊥
  pub ends : EndsBy p.begins

pub exact_nothing : IsExact nothing_part
exact_nothing = record { one = λ tokens a b d e. sym d ∙ e; none = λ tokens rest refusal s d. s; ends = ends_same }

pub exact_word : (text : List ℕ) → IsExact (word_part text)
exact_word text = record { one = word_leaves_one text; none = λ tokens rest refusal s d. s.0 rest d; ends = token_end _ _ }

pub exact_mark : (code : ℕ) → IsExact (mark_part code)
exact_mark code = record { one = mark_leaves_one code; none = λ tokens rest refusal s d. s.0 rest d; ends = token_end _ _ }

pub exact_number : IsExact number_part
exact_number = record {
  one = λ tokens a b d e. number_leaves_one d.0 e.0 tokens a b d.1 e.1;
  none = λ tokens rest refusal s d. s.0 d.0 rest d.1;
  ends = λ tokens rest d. token_ends _ _ tokens rest d.1;
}

pub exact_type : IsExact type_part
exact_type = record {
  one = λ tokens a b d e. type_one d.0 e.0 d.1 e.1 tokens a b d.2 e.2;
  none = λ tokens rest refusal s d. none_type s d.0 d.1 rest d.2;
  ends = λ tokens rest d. shortens_ends (ty_here d.0 d.1) (type_shortens d.0 d.1) tokens rest d.2;
}

pub exact_typed : IsExact typed_part
exact_typed = record {
  one = λ tokens a b d e. typed_one d.0 e.0 d.1 e.1 tokens a b d.2 e.2;
  none = λ tokens rest refusal s d. none_typed s d.0 d.1 rest d.2;
  ends = λ tokens rest d. shortens_ends _ (typed_shortens d.0 d.1) tokens rest d.2;
}

pub exact_local : IsExact local_part
exact_local = record {
  one = λ tokens a b d e. token_leaves_one _ _ _ tokens a b d.2 e.2;
  none = λ tokens rest refusal s d. s.0 d.0 d.1 rest d.2;
  ends = λ tokens rest d. token_ends _ _ tokens rest d.2;
}

pub exact_global : IsExact global_part
exact_global = record {
  one = λ tokens a b d e. token_leaves_one _ _ _ tokens a b d.2 e.2;
  none = λ tokens rest refusal s d. s.0 d.0 d.1 rest d.2;
  ends = λ tokens rest d. token_ends _ _ tokens rest d.2;
}

pub exact_value : (width : Option ℕ) → IsExact (value_part width)
exact_value width = record {
  one = λ tokens a b d e. value_one d.2.0 e.2.0 d.2.1 e.2.1 d.0 e.0 tokens a b d.2.2 e.2.2;
  none = λ tokens rest refusal s d. none_value s.2 d.2.0 d.2.1 rest (retyped d.2.0 d.2.1 d.0 s.0 tokens rest (d.1 ∙ sym s.1) d.2.2);
  ends = λ tokens rest d. shortens_ends _ (value_shortens d.2.0 d.2.1 d.0) tokens rest d.2.2;
}

-- one part, then another
module _ (p q : Part) (first : IsExact p) (second : IsExact q) where
  then_one : (tokens a b : List Lexeme) → (p.begins >> q.begins) tokens a → (p.begins >> q.begins) tokens b → a ≡ b
  unfolding ◌>>◌
  then_one tokens a b (m, d, e) (m', d', e') = second.one m a b e (subst (λ ls. q.begins ls b) (first.one tokens m' m d' d) e')

  then_none : (tokens rest : List Lexeme) (refusal : Refusal) → (p then q).stops tokens refusal → (p.begins >> q.begins) tokens rest → ⊥
  unfolding ◌>>◌
  then_none tokens rest refusal (inl s) (m, d, e) = first.none tokens m refusal s d
  then_none tokens rest refusal (inr (m, d, s)) (m', d', e') = second.none m rest refusal s (subst (λ ls. q.begins ls rest) (first.one tokens m' m d' d) e')

  pub exact_then : IsExact (p then q)
  exact_then = record { one = then_one; none = then_none; ends = seq_ends p.begins q.begins first.ends second.ends }

-- a type, then what its width decides on
module _ (next : Option ℕ → Part) (exact : (width : Option ℕ) → IsExact (next width)) where
  abbrev Then : List Lexeme → List Lexeme → Type 0
  Then = (type_then next).begins

  same_next : (names other : List NameText) (t u : LlType) (tokens m m' rest : List Lexeme) → ty_here names t tokens m → ty_here other u tokens m' → (next (int_width u)).begins m' rest → (next (int_width t)).begins m rest
  same_next names other t u tokens m m' rest d d' x =
      subst (λ ls. (next (int_width t)).begins ls rest) (type_one other names u t tokens m' m d' d)
      (subst (λ w. (next w).begins m' rest) (one_width other names u t tokens m' m d' d) x)

  type_then_one : (tokens a b : List Lexeme) → Then tokens a → Then tokens b → a ≡ b
  type_then_one tokens a b (names, t, m, d, x) (other, u, m', d', x') =
      (exact (int_width t)).one m a b x (same_next names other t u tokens m m' b d d' x')

  type_then_none : (tokens rest : List Lexeme) (refusal : Refusal) → (type_then next).stops tokens refusal → Then tokens rest → ⊥
  type_then_none tokens rest refusal (inl s) (names, t, m, d, x) = none_type s names t m d
  type_then_none tokens rest refusal (inr (names, t, m, d, s)) (other, u, m', d', x') =
      (exact (int_width t)).none m rest refusal s (same_next names other t u tokens m m' rest d d' x')

  type_then_ends : EndsBy Then
  type_then_ends tokens rest (names, t, m, d, x) =
      ends_then tokens m rest (shortens_ends (ty_here names t) (type_shortens names t) tokens m d) ((exact (int_width t)).ends m rest x)

  pub exact_type_then : IsExact (type_then next)
  exact_type_then = record { one = type_then_one; none = type_then_none; ends = type_then_ends }

-- parts that may be missing, or there several times; each begins with its opening
module _ (opening : Production) (p : Part) (exact : IsExact p) (opens : (tokens rest : List Lexeme) → p.begins tokens rest → Begins opening tokens) where
  optional_one : (tokens a b : List Lexeme) → (optional opening p).begins tokens a → (optional opening p).begins tokens b → a ≡ b
  optional_one tokens a b (inl d) (inl e) = exact.one tokens a b d e
  optional_one tokens a b (inl d) (inr (same, nowhere)) = let o = opens tokens a d in absurd (nowhere o.0 o.1)
  optional_one tokens a b (inr (same, nowhere)) (inl e) = let o = opens tokens b e in absurd (nowhere o.0 o.1)
  optional_one tokens a b (inr (same, nowhere)) (inr (same', nowhere')) = sym same ∙ same'

  optional_none : (tokens rest : List Lexeme) (refusal : Refusal) → (optional opening p).stops tokens refusal → (optional opening p).begins tokens rest → ⊥
  optional_none tokens rest refusal (o, s) (inl d) = exact.none tokens rest refusal s d
  optional_none tokens rest refusal (o, s) (inr (same, nowhere)) = nowhere o.0 o.1

  optional_ends : EndsBy (optional opening p).begins
  optional_ends tokens rest (inl d) = exact.ends tokens rest d
  optional_ends tokens rest (inr (same, nowhere)) = ends_same tokens rest same

  pub exact_optional : IsExact (optional opening p)
  exact_optional = record { one = optional_one; none = optional_none; ends = optional_ends }

  times_one : (count other : ℕ) (tokens a b : List Lexeme) → times count p.begins tokens a → EndsNowhere opening a → times other p.begins tokens b → EndsNowhere opening b → a ≡ b
  unfolding ◌>>◌
  times_one zero zero tokens a b same nowhere same' nowhere' = sym same ∙ same'
  times_one zero (suc other) tokens a b same nowhere (m, d, more) nowhere' =
      let o = opens tokens m d in absurd (subst (EndsNowhere opening) (sym same) nowhere o.0 o.1)
  times_one (suc count) zero tokens a b (m, d, more) nowhere same nowhere' =
      let o = opens tokens m d in absurd (subst (EndsNowhere opening) (sym same) nowhere' o.0 o.1)
  times_one (suc count) (suc other) tokens a b (m, d, more) nowhere (m', d', more') nowhere' =
      times_one count other m a b more nowhere (subst (λ ls. times other p.begins ls b) (exact.one tokens m' m d' d) more') nowhere'

  times_none : (count other : ℕ) (tokens middle rest : List Lexeme) (refusal : Refusal) → times count p.begins tokens middle → Begins opening middle → p.stops middle refusal → times other p.begins tokens rest → EndsNowhere opening rest → ⊥
  unfolding ◌>>◌
  times_none zero zero tokens middle rest refusal same o s same' nowhere =
      nowhere o.0 (subst (λ ls. opening ls o.0) (sym same ∙ same') o.1)
  times_none zero (suc other) tokens middle rest refusal same o s (m, d, more) nowhere =
      exact.none middle m refusal s (subst (λ ls. p.begins ls m) same d)
  times_none (suc count) zero tokens middle rest refusal (m, d, more) o s same nowhere =
      let first = opens tokens m d in subst (EndsNowhere opening) (sym same) nowhere first.0 first.1
  times_none (suc count) (suc other) tokens middle rest refusal (m, d, more) o s (m', d', more') nowhere =
      times_none count other m middle rest refusal more o s (subst (λ ls. times other p.begins ls rest) (exact.one tokens m' m d' d) more') nowhere

  times_ends : (count : ℕ) → EndsBy (times count p.begins)
  times_ends zero = ends_same
  times_ends (suc count) = seq_ends p.begins (times count p.begins) exact.ends (times_ends count)

  repeated_one : (tokens a b : List Lexeme) → (repeated opening p).begins tokens a → (repeated opening p).begins tokens b → a ≡ b
  repeated_one tokens a b (count, d, nowhere) (other, e, nowhere') = times_one count other tokens a b d nowhere e nowhere'

  repeated_none : (tokens rest : List Lexeme) (refusal : Refusal) → (repeated opening p).stops tokens refusal → (repeated opening p).begins tokens rest → ⊥
  repeated_none tokens rest refusal (count, middle, d, o, s) (other, e, nowhere) = times_none count other tokens middle rest refusal d o s e nowhere

  repeated_ends : EndsBy (repeated opening p).begins
  repeated_ends tokens rest (count, d, nowhere) = times_ends count tokens rest d

  pub exact_repeated : IsExact (repeated opening p)
  exact_repeated = record { one = repeated_one; none = repeated_none; ends = repeated_ends }

-- a part, or another one
module _ (opening : Production) (p q : Part) (first : IsExact p) (second : IsExact q) (opens : (tokens rest : List Lexeme) → p.begins tokens rest → Begins opening tokens) where
  either_one : (tokens a b : List Lexeme) → (either opening p q).begins tokens a → (either opening p q).begins tokens b → a ≡ b
  either_one tokens a b (inl d) (inl e) = first.one tokens a b d e
  either_one tokens a b (inl d) (inr (nowhere, e)) = let o = opens tokens a d in absurd (nowhere o.0 o.1)
  either_one tokens a b (inr (nowhere, d)) (inl e) = let o = opens tokens b e in absurd (nowhere o.0 o.1)
  either_one tokens a b (inr (nowhere, d)) (inr (nowhere', e)) = second.one tokens a b d e

  either_none : (tokens rest : List Lexeme) (refusal : Refusal) → (either opening p q).stops tokens refusal → (either opening p q).begins tokens rest → ⊥
  either_none tokens rest refusal (inl (o, s)) (inl d) = first.none tokens rest refusal s d
  either_none tokens rest refusal (inl (o, s)) (inr (nowhere, d)) = nowhere o.0 o.1
  either_none tokens rest refusal (inr (nowhere, s)) (inl d) = let o = opens tokens rest d in nowhere o.0 o.1
  either_none tokens rest refusal (inr (nowhere, s)) (inr (nowhere', d)) = second.none tokens rest refusal s d

  either_ends : EndsBy (either opening p q).begins
  either_ends tokens rest (inl d) = first.ends tokens rest d
  either_ends tokens rest (inr (nowhere, d)) = second.ends tokens rest d

  pub exact_either : IsExact (either opening p q)
  exact_either = record { one = either_one; none = either_none; ends = either_ends }

pub exact_one_word : {K : Type 0} (text : K → List ℕ) → IsExact (one_word text)
exact_one_word text = record {
  one = λ tokens a b d e. token_leaves_one _ _ _ tokens a b d.1 e.1;
  none = λ tokens rest refusal s d. s.0 d.0 rest d.1;
  ends = λ tokens rest d. token_ends _ _ tokens rest d.1;
}

-- one token has one text
pub same_word : (text other : List ℕ) (tokens a b : List Lexeme) → word text tokens a → word other tokens b → text ≡ other
same_word text other tokens a b (l, is, _, text_l) (m, is', _, text_m) =
    sym text_l ∙ ap (λ (t : Lexeme). t.text) (same_first l m a b (sym is ∙ is')) ∙ text_m

-- a word of several, no two of which are the same
module _ {K : Type 0} (text : K → List ℕ) (next : K → Part) (apart : (j k : K) → text j ≡ text k → j ≡ k) (exact : (key : K) → IsExact (next key)) where
  same_key : (j k : K) (tokens m m' rest : List Lexeme) → word (text j) tokens m → word (text k) tokens m' → (next k).begins m' rest → (next j).begins m rest
  same_key j k tokens m m' rest d d' x =
      let keys : k ≡ j = apart k j (same_word (text k) (text j) tokens m' m d' d) in
      subst (λ ls. (next j).begins ls rest) (token_leaves_one _ _ _ tokens m' m d' d) (subst (λ key. (next key).begins m' rest) keys x)

  word_then_one : (tokens a b : List Lexeme) → (word_then text next).begins tokens a → (word_then text next).begins tokens b → a ≡ b
  word_then_one tokens a b (j, m, d, x) (k, m', d', x') = (exact j).one m a b x (same_key j k tokens m m' b d d' x')

  word_then_none : (tokens rest : List Lexeme) (refusal : Refusal) → (word_then text next).stops tokens refusal → (word_then text next).begins tokens rest → ⊥
  word_then_none tokens rest refusal (j, m, d, s) (k, m', d', x') = (exact j).none m rest refusal s (same_key j k tokens m m' rest d d' x')

  word_then_ends : EndsBy (word_then text next).begins
  word_then_ends tokens rest (key, m, d, x) = ends_then tokens m rest (token_ends _ _ tokens m d) ((exact key).ends m rest x)

  pub exact_word_then : IsExact (word_then text next)
  exact_word_then = record { one = word_then_one; none = word_then_none; ends = word_then_ends }
