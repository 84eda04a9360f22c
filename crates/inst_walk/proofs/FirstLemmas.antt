-- A search that has found nothing so far goes on from where it is.
use Rattle.std.proofs.Common.{◌≡◌, ℕ, suc, ◌+◌, ◌<◌, ◌≤◌, Bool, true, false, cond, List, [], ◌∷◌, ◌++◌, Option, None, Some, length, get_or, take, drop, refl, sym, ◌∙◌, ap, arith}
use Rattle.std.specs.Prelude.{map}
use Rattle.std.specs.List.{position_from}
use Rattle.std.proofs.lemmas.Bool.{cond-true, cond-false}
use Rattle.std.proofs.lemmas.List.{drop_all, drop_more, take_more, get_or-map}
use Rattle.inst_walk.specs.First.{first_from, found_or, position_at}

length-map : {A B : Type 0} (f : A → B) (xs : List A) → length (map f xs) ≡ length xs
length-map f [] = refl
length-map f (x ∷ xs) = ap suc (length-map f xs)

module _ {A B : Type 0} (f : A → B) (xs : List A) (i : ℕ) where
  -- what is left of a mapped list begins with the item at that place
  dropped : (x : A) → i < length xs → x ≡ get_or xs i x → drop i (map f xs) ≡ f x ∷ drop (i + 1) (map f xs)
  dropped x below read =
      drop_more (map f xs) i (f x) (omega (arith, length-map f xs))
      ∙ ap (λ y. y ∷ drop (i + 1) (map f xs)) (get_or-map f xs i x (f x) below ∙ ap f (sym read))

  pub taken : (x : A) → i < length xs → x ≡ get_or xs i x → take (i + 1) (map f xs) ≡ take i (map f xs) ++ f x ∷ []
  taken x below read =
      take_more (map f xs) i (f x) (omega (arith, length-map f xs))
      ∙ ap (λ y. take i (map f xs) ++ y ∷ []) (get_or-map f xs i x (f x) below ∙ ap f (sym read))

  all-dropped : length xs ≤ i → drop i (map f xs) ≡ []
  all-dropped past = drop_all i (map f xs) (omega (arith, length-map f xs))

  module _ (p : B → Bool) where
    pub position-next : (x : A) → i < length xs → x ≡ get_or xs i x → p (f x) ≡ false → position_from p i (drop i (map f xs)) ≡ position_from p (i + 1) (drop (i + 1) (map f xs))
    position-next x below read not = ap (position_from p i) (dropped x below read) ∙ cond-false (p (f x)) _ _ not

    pub position-here : (x : A) → i < length xs → x ≡ get_or xs i x → p (f x) ≡ true → position_from p i (drop i (map f xs)) ≡ Some i
    position-here x below read is = ap (position_from p i) (dropped x below read) ∙ cond-true (p (f x)) _ _ is

    pub position-end : length xs ≤ i → position_from p i (drop i (map f xs)) ≡ None
    position-end past = ap (position_from p i) (all-dropped past)

  module _ (p : ℕ → B → Bool) where
    pub at-next : (x : A) → i < length xs → x ≡ get_or xs i x → p i (f x) ≡ false → position_at p i (drop i (map f xs)) ≡ position_at p (i + 1) (drop (i + 1) (map f xs))
    at-next x below read not = ap (position_at p i) (dropped x below read) ∙ cond-false (p i (f x)) _ _ not

    pub at-here : (x : A) → i < length xs → x ≡ get_or xs i x → p i (f x) ≡ true → position_at p i (drop i (map f xs)) ≡ Some i
    at-here x below read is = ap (position_at p i) (dropped x below read) ∙ cond-true (p i (f x)) _ _ is

    pub at-end : length xs ≤ i → position_at p i (drop i (map f xs)) ≡ None
    at-end past = ap (position_at p i) (all-dropped past)

  module _ {C : Type 0} (find : ℕ → B → Option C) where
    pub first-next : (x : A) → i < length xs → x ≡ get_or xs i x → find i (f x) ≡ None → first_from find i (drop i (map f xs)) ≡ first_from find (i + 1) (drop (i + 1) (map f xs))
    first-next x below read not =
        ap (first_from find i) (dropped x below read) ∙ ap (λ o. found_or i o (first_from find (i + 1) (drop (i + 1) (map f xs)))) not

    pub first-here : (x : A) (c : C) → i < length xs → x ≡ get_or xs i x → find i (f x) ≡ Some c → first_from find i (drop i (map f xs)) ≡ Some (i, c)
    first-here x c below read is =
        ap (first_from find i) (dropped x below read) ∙ ap (λ o. found_or i o (first_from find (i + 1) (drop (i + 1) (map f xs)))) is

    pub first-end : length xs ≤ i → first_from find i (drop i (map f xs)) ≡ None
    first-end past = ap (first_from find i) (all-dropped past)

-- two searches whose tests agree find the same
pub at-alike : {A : Type 0} (p q : ℕ → A → Bool) → ((i : ℕ) (x : A) → p i x ≡ q i x) → (place : ℕ) (xs : List A) → position_at p place xs ≡ position_at q place xs
at-alike p q same place [] = refl
at-alike p q same place (x ∷ xs) =
    ap (λ b. cond b (Some place) (position_at p (place + 1) xs)) (same place x)
    ∙ ap (λ o. cond (q place x) (Some place) o) (at-alike p q same (place + 1) xs)
