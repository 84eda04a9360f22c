-- Productions one behind another, and lists of them of which as much is read as is there.
use Rattle.std.proofs.Common.{◌≡◌, ℕ, false, true≢false, List, [], ◌∷◌, ◌++◌, refl, sym, ap, ap₂, ◌∙◌, subst, inl, inr}
use Rattle.std.specs.Cmp.Lexicographic.{bytes_decides}
use Rattle.std.specs.Str.{bytes_eq}
use Rattle.ll_tokens.specs.declared.kinds.TokenKind.{TokenKind}
use Rattle.ll_tokens.specs.Tokens.{Lexeme}
use Rattle.ll_parser.specs.Productions.{Production, ◌>>◌, ◌or◌, token, word, each}
use Rattle.ll_parser.specs.Reading.{EndsNowhere, DerivesNone}
use Rattle.ll_parser.proofs.EndFacts.{ends_same}
use Rattle.ll_parser.proofs.TokenFacts.{same_first, same_rest}
use Rattle.ll_types.proofs.Tokens.{EndsBy, seq_ends}
use Rattle.ll_attributes.specs.Lists.{AllOf, SkipsAll, maybe_here, some_of}

-- what two productions leave of the same tokens is one list
abbrev pub LeaveOne : Production → Production → Type 0
LeaveOne p q = (tokens a b : List Lexeme) → p tokens a → q tokens b → a ≡ b

pub seq_one : (p p' q q' : Production) → LeaveOne p p' → LeaveOne q q' → LeaveOne (p >> q) (p' >> q')
unfolding ◌>>◌
seq_one p p' q q' one two tokens a b (m, f, s) (m', f', s') = two m a b s (subst (λ ls. q' ls b) (sym (one tokens m m' f f')) s')

pub token_one : (kind kind' : TokenKind) (test test' : Lexeme → Type 0) → LeaveOne (token kind test) (token kind' test')
token_one kind kind' test test' tokens a b (l, is, _, _) (m, is', _, _) = same_rest _ _ _ _ (sym is ∙ is')

-- two words aren't one
pub words_apart : (v w : List ℕ) (tokens a b : List Lexeme) → bytes_eq v w ≡ false → word v tokens a → word w tokens b → ⊥
words_apart v w tokens a b other (l, is, _, text) (m, is', _, text') =
    true≢false (sym ((bytes_decides v w).1 (sym text ∙ ap (λ (t : Lexeme). t.text) (same_first l m _ _ (sym is ∙ is')) ∙ text')) ∙ other)

pub maybe_one : (p : Production) → LeaveOne p p → LeaveOne (maybe_here p) (maybe_here p)
maybe_one p one tokens a b (inl f) (inl g) = one tokens a b f g
maybe_one p one tokens a b (inl f) (inr (_, nowhere)) = absurd (nowhere a f)
maybe_one p one tokens a b (inr (_, nowhere)) (inl g) = absurd (nowhere b g)
maybe_one p one tokens a b (inr (same, _)) (inr (same', _)) = sym same ∙ same'

pub neither : (p q : Production) (tokens : List Lexeme) → EndsNowhere p tokens → EndsNowhere q tokens → maybe_here (p or q) tokens tokens
neither p q tokens no_p no_q = inr (refl, none)
  where
    none : (rest : List Lexeme) → (p or q) tokens rest → ⊥
    none rest (inl d) = no_p rest d
    none rest (inr d) = no_q rest d

pub joined : (p q : Production) (tokens middle rest : List Lexeme) → p tokens middle → q middle rest → (p >> q) tokens rest
unfolding ◌>>◌
joined p q tokens middle rest f s = (middle, f, s)

-- nothing is derived where the second of two productions derives nothing
pub second_none : (p p' q : Production) (tokens middle : List Lexeme) → LeaveOne p p' → p tokens middle → EndsNowhere q middle → EndsNowhere (p' >> q) tokens
unfolding ◌>>◌
second_none p p' q tokens middle one f nowhere rest (m, f', s) =
    nowhere rest (subst (λ ls. q ls rest) (sym (one tokens middle m f f')) s)

-- one item more
pub each_push : {A : Type 0} (item : A → Production) (xs : List A) (x : A) (tokens middle rest : List Lexeme) → each item xs tokens middle → item x middle rest → each item (xs ++ x ∷ []) tokens rest
unfolding ◌>>◌
each_push item [] x tokens middle rest same one = (rest, subst (λ ls. item x ls rest) (sym same) one, refl)
each_push item (y ∷ ys) x tokens middle rest (m, first, more) one = (m, first, each_push item ys x m middle rest more one)

pub some_push : {A : Type 0} (item : A → Production) (x : A) (tokens middle rest : List Lexeme) → some_of item tokens middle → item x middle rest → some_of item tokens rest
some_push item x tokens middle rest (xs, before) one = (xs ++ x ∷ [], each_push item xs x tokens middle rest before one)

pub each_ends : {A : Type 0} (item : A → Production) (ends : (x : A) → EndsBy (item x)) (xs : List A) → EndsBy (each item xs)
each_ends item ends [] = ends_same
each_ends item ends (x ∷ xs) = seq_ends _ _ (ends x) (each_ends item ends xs)

module _ {A B : Type 0} (item : A → Production) (other : B → Production) (none_begins : List Lexeme → Type 0)
    (one : (x : A) (y : B) → LeaveOne (item x) (other y))
    (begins : (x : A) (tokens rest : List Lexeme) → item x tokens rest → none_begins tokens → ⊥)
    (begins_other : (y : B) (tokens rest : List Lexeme) → other y tokens rest → none_begins tokens → ⊥) where
  -- all items leave one list
  pub each_one : (xs : List A) (ys : List B) (tokens a b : List Lexeme) → each item xs tokens a → none_begins a → each other ys tokens b → none_begins b → a ≡ b
  unfolding ◌>>◌
  each_one [] [] tokens a b same end same' end' = sym same ∙ same'
  each_one [] (y ∷ ys) tokens a b same end (m, f, _) end' = absurd (begins_other y tokens m f (subst none_begins (sym same) end))
  each_one (x ∷ xs) [] tokens a b (m, f, _) end same' end' = absurd (begins x tokens m f (subst none_begins (sym same') end'))
  each_one (x ∷ xs) (y ∷ ys) tokens a b (m, f, more) end (m', f', more') end' =
      each_one xs ys m a b more end (subst (λ ls. each other ys ls b) (sym (one x y tokens m m' f f')) more') end'

  -- behind some items one begins that is none, so the tokens have no items that are all
  pub none_behind : (xs : List A) (ys : List B) (tokens middle rest : List Lexeme) → each item xs tokens middle → (none_begins middle → ⊥) → DerivesNone other middle → each other ys tokens rest → none_begins rest → ⊥
  unfolding ◌>>◌
  none_behind [] [] tokens middle rest same goes_on none same' end = goes_on (subst none_begins (sym same' ∙ same) end)
  none_behind [] (y ∷ ys) tokens middle rest same goes_on none (m, f, _) end = none y m (subst (λ ls. other y ls m) same f)
  none_behind (x ∷ xs) [] tokens middle rest (m, f, _) goes_on none same' end = begins x tokens m f (subst none_begins (sym same') end)
  none_behind (x ∷ xs) (y ∷ ys) tokens middle rest (m, f, more) goes_on none (m', f', more') end =
      none_behind xs ys m middle rest more goes_on none (subst (λ ls. each other ys ls rest) (sym (one x y tokens m m' f f')) more') end

  pub all_one : (xs : List A) (ys : List B) → LeaveOne (AllOf item none_begins xs) (AllOf other none_begins ys)
  all_one xs ys tokens a b d e = each_one xs ys tokens a b d.items d.all e.items e.all

  pub all_none : (tokens middle : List Lexeme) → some_of item tokens middle → (none_begins middle → ⊥) → DerivesNone other middle → DerivesNone (AllOf other none_begins) tokens
  all_none tokens middle before goes_on none ys rest d = none_behind before.0 ys tokens middle rest before.1 goes_on none d.items d.all

  pub skips_one : LeaveOne (SkipsAll (some_of item) none_begins) (SkipsAll (some_of other) none_begins)
  skips_one tokens a b d e = each_one d.skipped.0 e.skipped.0 tokens a b d.skipped.1 d.all e.skipped.1 e.all

  pub skips_none : (tokens middle : List Lexeme) → some_of item tokens middle → (none_begins middle → ⊥) → DerivesNone other middle → EndsNowhere (SkipsAll (some_of other) none_begins) tokens
  skips_none tokens middle before goes_on none rest d = none_behind before.0 d.skipped.0 tokens middle rest before.1 goes_on none d.skipped.1 d.all

module _ {A : Type 0} (item : A → Production) (none_begins : List Lexeme → Type 0)
    (one : (x y : A) → LeaveOne (item x) (item y))
    (begins : (x : A) (tokens rest : List Lexeme) → item x tokens rest → none_begins tokens → ⊥)
    (alike : (x y : A) (tokens a b : List Lexeme) → item x tokens a → item y tokens b → x ≡ y) where
  -- all items are one list
  pub each_same : (xs ys : List A) (tokens a b : List Lexeme) → each item xs tokens a → none_begins a → each item ys tokens b → none_begins b → xs ≡ ys
  unfolding ◌>>◌
  each_same [] [] tokens a b same end same' end' = refl
  each_same [] (y ∷ ys) tokens a b same end (m, f, _) end' = absurd (begins y tokens m f (subst none_begins (sym same) end))
  each_same (x ∷ xs) [] tokens a b (m, f, _) end same' end' = absurd (begins x tokens m f (subst none_begins (sym same') end'))
  each_same (x ∷ xs) (y ∷ ys) tokens a b (m, f, more) end (m', f', more') end' =
      ap₂ (λ (z : A) (zs : List A). z ∷ zs) (alike x y tokens m m' f f')
      (each_same xs ys m a b more end (subst (λ ls. each item ys ls b) (sym (one x y tokens m m' f f')) more') end')

  pub all_same : (xs ys : List A) (tokens a b : List Lexeme) → AllOf item none_begins xs tokens a → AllOf item none_begins ys tokens b → xs ≡ ys
  all_same xs ys tokens a b d e = each_same xs ys tokens a b d.items d.all e.items e.all
