-- Parts are refused at one place, by one rule, where what they consist of is.
use Rattle.std.proofs.Common.{◌≡◌, ℕ, zero, suc, List, sym, ◌∙◌, subst, inl, inr, ◌⊎◌, Option}
use Rattle.ll_tokens.specs.Tokens.{Lexeme}
use Rattle.ll_tree.specs.Types.{int_width}
use Rattle.ll_parser.specs.declared.refusal.Refusal.{Refusal}
use Rattle.ll_parser.specs.Productions.{Production, ◌>>◌}
use Rattle.ll_parser.specs.Reading.{EndsNowhere}
use Rattle.ll_parser.proofs.TokenFacts.{token_leaves_one}
use Rattle.ll_types.proofs.NoTypes.{none_type}
use Rattle.ll_types.proofs.OneType.{type_one}
use Rattle.ll_types.proofs.Widths.{one_width}
use Rattle.ll_operands.specs.Parts.{Begins, Part, Stops, either, one_word, optional, repeated, ◌then◌, times, type_part, type_then, word_then}
use Rattle.ll_operands.proofs.PartFacts.{IsExact, same_word}
use Rattle.ll_bodies.specs.BodyJoins.{no_part, unless_begins, until}

-- two refusals of the same tokens are one
abbrev pub RefusesOnce : Stops → Type 0
RefusesOnce stops = (tokens : List Lexeme) (r s : Refusal) → stops tokens r → stops tokens s → r ≡ s

pub record Once (p : Part) : Type 0 where
  pub refuses : RefusesOnce p.stops

-- one part, then another
module _ (p q : Part) (exact : IsExact p) (first : Once p) (second : Once q) where
  then_once : RefusesOnce (p then q).stops
  then_once tokens r s (inl d) (inl e) = first.refuses tokens r s d e
  then_once tokens r s (inl d) (inr (m, e, _)) = absurd (exact.none tokens m r d e)
  then_once tokens r s (inr (m, d, _)) (inl e) = absurd (exact.none tokens m s e d)
  then_once tokens r s (inr (m, d, f)) (inr (m', d', f')) = second.refuses m r s f (subst (λ ls. q.stops ls s) (exact.one tokens m' m d' d) f')

  pub once_then : Once (p then q)
  once_then = record { refuses = then_once }

-- a type, then what its width decides on
module _ (next : Option ℕ → Part) (types : Once type_part) (once : (width : Option ℕ) → Once (next width)) where
  type_then_once : RefusesOnce (type_then next).stops
  type_then_once tokens r s (inl d) (inl e) = types.refuses tokens r s d e
  type_then_once tokens r s (inl d) (inr (names, t, m, e, _)) = absurd (none_type d names t m e)
  type_then_once tokens r s (inr (names, t, m, d, _)) (inl e) = absurd (none_type e names t m d)
  type_then_once tokens r s (inr (names, t, m, d, f)) (inr (other, u, m', d', f')) =
      (once (int_width t)).refuses m r s f
      (subst (λ ls. (next (int_width t)).stops ls s) (type_one other names u t tokens m' m d' d)
      (subst (λ w. (next w).stops m' s) (one_width other names u t tokens m' m d' d) f'))

  pub once_type_then : Once (type_then next)
  once_type_then = record { refuses = type_then_once }

pub once_optional : (opening : Production) (p : Part) → Once p → Once (optional opening p)
once_optional opening p once = record { refuses = λ tokens r s d e. once.refuses tokens r s d.1 e.1 }

either_once : (opening : Production) (p q : Part) → Once p → Once q → RefusesOnce (either opening p q).stops
either_once opening p q first second tokens r s (inl (o, d)) (inl (o', e)) = first.refuses tokens r s d e
either_once opening p q first second tokens r s (inl (o, d)) (inr (nowhere, e)) = absurd (nowhere o.0 o.1)
either_once opening p q first second tokens r s (inr (nowhere, d)) (inl (o, e)) = absurd (nowhere o.0 o.1)
either_once opening p q first second tokens r s (inr (nowhere, d)) (inr (nowhere', e)) = second.refuses tokens r s d e

pub once_either : (opening : Production) (p q : Part) → Once p → Once q → Once (either opening p q)
once_either opening p q first second = record { refuses = either_once opening p q first second }

-- a part as often as its opening is there
module _ (opening : Production) (p : Part) (exact : IsExact p) (once : Once p) where
  times_once : (count other : ℕ) (tokens m m' : List Lexeme) (r s : Refusal) → times count p.begins tokens m → p.stops m r → times other p.begins tokens m' → p.stops m' s → r ≡ s
  unfolding ◌>>◌
  times_once zero zero tokens m m' r s same f same' f' = once.refuses m r s f (subst (λ ls. p.stops ls s) (sym same' ∙ same) f')
  times_once zero (suc other) tokens m m' r s same f (k, d, more) f' = absurd (exact.none tokens k r (subst (λ ls. p.stops ls r) (sym same) f) d)
  times_once (suc count) zero tokens m m' r s (k, d, more) f same f' = absurd (exact.none tokens k s (subst (λ ls. p.stops ls s) (sym same) f') d)
  times_once (suc count) (suc other) tokens m m' r s (k, d, more) f (k', d', more') f' =
      times_once count other k m m' r s more f (subst (λ ls. times other p.begins ls m') (exact.one tokens k' k d' d) more') f'

  pub once_repeated : Once (repeated opening p)
  once_repeated = record { refuses = λ tokens r s d e. times_once d.0 e.0 tokens d.1 e.1 r s d.2 d.4 e.2 e.4 }

pub once_one_word : {K : Type 0} (text : K → List ℕ) → Once (one_word text)
once_one_word text = record { refuses = λ tokens r s d e. d.1 ∙ sym e.1 }

-- a word of several, no two of which are the same
module _ {K : Type 0} (text : K → List ℕ) (next : K → Part) (apart : (j k : K) → text j ≡ text k → j ≡ k) (once : (key : K) → Once (next key)) where
  word_then_once : RefusesOnce (word_then text next).stops
  word_then_once tokens r s (j, m, d, f) (k, m', d', f') =
      let keys : k ≡ j = apart k j (same_word (text k) (text j) tokens m' m d' d) in
      (once j).refuses m r s f (subst (λ ls. (next j).stops ls s) (token_leaves_one _ _ _ tokens m' m d' d) (subst (λ key. (next key).stops m' s) keys f'))

  pub once_word_then : Once (word_then text next)
  once_word_then = record { refuses = word_then_once }

pub once_none : Once no_part
once_none = record { refuses = λ tokens r s d e. d ∙ sym e }

-- a part until something else begins, and then that
module _ (opening : Production) (p q : Part) (exact : IsExact p) (first : Once p) (second : Once q) where
  abbrev Items : ℕ → List Lexeme → List Lexeme → Type 0
  Items count = times count (unless_begins opening p.begins)

  -- where the parts end, a further one is refused, or the opening of the last begins and that is refused
  abbrev Fails : List Lexeme → Refusal → Type 0
  Fails middle r = (EndsNowhere opening middle × p.stops middle r) ⊎ (Begins opening middle × q.stops middle r)

  no_more : (tokens k : List Lexeme) (r : Refusal) → Fails tokens r → EndsNowhere opening tokens → p.begins tokens k → ⊥
  no_more tokens k r (inl (_, f)) nowhere d = exact.none tokens k r f d
  no_more tokens k r (inr (o, _)) nowhere d = nowhere o.0 o.1

  fails_once : RefusesOnce Fails
  fails_once tokens r s (inl (_, d)) (inl (_, e)) = first.refuses tokens r s d e
  fails_once tokens r s (inl (nowhere, d)) (inr (o, e)) = absurd (nowhere o.0 o.1)
  fails_once tokens r s (inr (o, d)) (inl (nowhere, e)) = absurd (nowhere o.0 o.1)
  fails_once tokens r s (inr (_, d)) (inr (_, e)) = second.refuses tokens r s d e

  items_once : (count other : ℕ) (tokens m m' : List Lexeme) (r s : Refusal) → Items count tokens m → Fails m r → Items other tokens m' → Fails m' s → r ≡ s
  unfolding ◌>>◌
  items_once zero zero tokens m m' r s same f same' f' = fails_once m r s f (subst (λ ls. Fails ls s) (sym same' ∙ same) f')
  items_once zero (suc other) tokens m m' r s same f (k, (nowhere, d), more) f' = absurd (no_more tokens k r (subst (λ ls. Fails ls r) (sym same) f) nowhere d)
  items_once (suc count) zero tokens m m' r s (k, (nowhere, d), more) f same f' = absurd (no_more tokens k s (subst (λ ls. Fails ls s) (sym same) f') nowhere d)
  items_once (suc count) (suc other) tokens m m' r s (k, (nowhere, d), more) f (k', (nowhere', d'), more') f' =
      items_once count other k m m' r s more f (subst (λ ls. Items other ls m') (exact.one tokens k' k d' d) more') f'

  pub once_until : Once (until opening p q)
  once_until = record { refuses = λ tokens r s d e. items_once d.0 e.0 tokens d.1 e.1 r s d.2 d.3 e.2 e.3 }
