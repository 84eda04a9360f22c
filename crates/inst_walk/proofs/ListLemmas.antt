-- Mapped lists, and the members of lists.
use Rattle.std.proofs.Common.{◌≡◌, ℕ, zero, suc, ◌+◌, ◌<◌, Bool, cond, List, [], ◌∷◌, ◌++◌, Option, None, Some, length, get_or, refl, sym, ◌∙◌, ap, subst, arith, ◌⊎◌, ⊎_elim, inl, inr, ◌||◌}
use Rattle.std.specs.Prelude.{map, flat_map, slice_get, Contains}
use Rattle.std.specs.List.{filter_map, cons_option, list_any, position_from}
use Rattle.std.specs.Option.{option_map}
use Rattle.std.proofs.lemmas.List.Elements.{Contains-append_left, Contains-append_right, Contains-append_cases}
use Rattle.std.proofs.lemmas.List.{map-append, get_or-map}
use Rattle.inst_walk.specs.First.{first_from, found_or, position_at}
use Rattle.inst_walk.proofs.BlockGraph.{length-map}

module _ {A : Type 0} where
  pub contains-head : (x : A) (xs : List A) → Contains (x ∷ xs) x
  contains-head x xs = (0, omega arith, refl)

  pub contains-tail : (x y : A) (xs : List A) → Contains xs y → Contains (x ∷ xs) y
  contains-tail x y xs h = let lt = h.1 in (suc h.0, omega arith, h.2)

  pub contains-none : (y : A) (B : Type 0) → Contains [] y → B
  contains-none y B h = let lt = h.1 in absurd (omega arith)

  cases-at : (x y : A) (xs : List A) (k : ℕ) → k < length (x ∷ xs) → get_or (x ∷ xs) k y ≡ y → (x ≡ y) ⊎ Contains xs y
  cases-at x y xs zero below e = inl e
  cases-at x y xs (suc k) below e = inr (k, omega arith, e)

  pub contains-cases : (x y : A) (xs : List A) → Contains (x ∷ xs) y → (x ≡ y) ⊎ Contains xs y
  contains-cases x y xs h = cases-at x y xs h.0 h.1 h.2

  pub contains-read : (xs : List A) (i : ℕ) (x : A) → slice_get xs i ≡ Some x → Contains xs x
  contains-read [] i x at = absurd cc
  contains-read (y ∷ xs) zero x at = let e : y ≡ x = cc in subst (Contains (y ∷ xs)) e (contains-head y xs)
  contains-read (y ∷ xs) (suc i) x at = contains-tail y x xs (contains-read xs i x at)

contains-cons_option : {B : Type 0} (o : Option B) (ys : List B) (y : B) → Contains ys y → Contains (cons_option o ys) y
contains-cons_option None ys y h = h
contains-cons_option (Some z) ys y h = contains-tail z y ys h

module _ {A B : Type 0} where
  pub contains-map : (f : A → B) (xs : List A) (x : A) → Contains xs x → Contains (map f xs) (f x)
  contains-map f xs x h =
      let lt = h.1 in
      (h.0, omega (arith, length-map f xs), get_or-map f xs h.0 x (f x) h.1 ∙ ap f h.2)

  pub contains-flat_map : (f : A → List B) (xs : List A) (x : A) (y : B) → Contains xs x → Contains (f x) y → Contains (flat_map f xs) y
  contains-flat_map f [] x y h at = contains-none x _ h
  contains-flat_map f (z ∷ xs) x y h at = ⊎_elim
      (λ e. Contains-append_left (f z) (flat_map f xs) y (subst (λ w. Contains (f w) y) (sym e) at))
      (λ i. Contains-append_right (f z) (flat_map f xs) y (contains-flat_map f xs x y i at))
      (contains-cases z x xs h)

  pub contains-filter_map : (f : A → Option B) (xs : List A) (x : A) (y : B) → Contains xs x → f x ≡ Some y → Contains (filter_map f xs) y
  contains-filter_map f [] x y h at = contains-none x _ h
  contains-filter_map f (z ∷ xs) x y h at = ⊎_elim
      (λ e. subst (λ o. Contains (cons_option o (filter_map f xs)) y) (sym (ap f e ∙ at)) (contains-head y (filter_map f xs)))
      (λ i. contains-cons_option (f z) (filter_map f xs) y (contains-filter_map f xs x y i at))
      (contains-cases z x xs h)

  -- two functions that agree on the members
  pub map-alike : (f g : A → B) (xs : List A) → ((x : A) → Contains xs x → f x ≡ g x) → map f xs ≡ map g xs
  map-alike f g [] same = refl
  map-alike f g (x ∷ xs) same =
      ap (λ y. y ∷ map f xs) (same x (contains-head x xs))
      ∙ ap (λ ys. g x ∷ ys) (map-alike f g xs (λ y h. same y (contains-tail x y xs h)))

  pub flat_map-alike : (f g : A → List B) (xs : List A) → ((x : A) → Contains xs x → f x ≡ g x) → flat_map f xs ≡ flat_map g xs
  flat_map-alike f g [] same = refl
  flat_map-alike f g (x ∷ xs) same =
      ap (λ ys. ys ++ flat_map f xs) (same x (contains-head x xs))
      ∙ ap (λ ys. g x ++ ys) (flat_map-alike f g xs (λ y h. same y (contains-tail x y xs h)))

-- what is in the one list is in the other
pub flat_map-within : {A B : Type 0} (f g : A → List B) (xs : List A) (y : B) → ((x : A) → Contains xs x → Contains (f x) y → Contains (g x) y) → Contains (flat_map f xs) y → Contains (flat_map g xs) y
flat_map-within f g [] y each h = h
flat_map-within f g (x ∷ xs) y each h = ⊎_elim
    (λ i. Contains-append_left (g x) (flat_map g xs) y (each x (contains-head x xs) i))
    (λ i. Contains-append_right (g x) (flat_map g xs) y (flat_map-within f g xs y (λ z j k. each z (contains-tail x z xs j) k) i))
    (Contains-append_cases (f x) (flat_map f xs) y h)

cons_option-cases : {B : Type 0} (o : Option B) (ys : List B) (y : B) → Contains (cons_option o ys) y → (o ≡ Some y) ⊎ Contains ys y
cons_option-cases None ys y h = inr h
cons_option-cases (Some z) ys y h = ⊎_elim (λ e. inl (ap Some e)) (λ i. inr i) (contains-cases z y ys h)

pub filter_map-within : {A B : Type 0} (f : A → Option B) (g : A → List B) (xs : List A) (y : B) → ((x : A) → f x ≡ Some y → Contains (g x) y) → Contains (filter_map f xs) y → Contains (flat_map g xs) y
filter_map-within f g [] y each h = h
filter_map-within f g (x ∷ xs) y each h = ⊎_elim
    (λ e. Contains-append_left (g x) (flat_map g xs) y (each x e))
    (λ i. Contains-append_right (g x) (flat_map g xs) y (filter_map-within f g xs y each i))
    (cons_option-cases (f x) (filter_map f xs) y h)

pub map-same : {A : Type 0} (f : A → A) (xs : List A) → ((x : A) → Contains xs x → f x ≡ x) → map f xs ≡ xs
map-same f [] same = refl
map-same f (x ∷ xs) same =
    ap (λ y. y ∷ map f xs) (same x (contains-head x xs)) ∙ ap (λ ys. x ∷ ys) (map-same f xs (λ y h. same y (contains-tail x y xs h)))

map-cons_option : {B C : Type 0} (f : B → C) (o : Option B) (ys : List B) → map f (cons_option o ys) ≡ cons_option (option_map f o) (map f ys)
map-cons_option f None ys = refl
map-cons_option f (Some y) ys = refl

module _ {A B C : Type 0} where
  pub map-flat_map : (f : B → C) (h : A → List B) (xs : List A) → map f (flat_map h xs) ≡ flat_map (λ x. map f (h x)) xs
  map-flat_map f h [] = refl
  map-flat_map f h (x ∷ xs) = map-append f (h x) (flat_map h xs) ∙ ap (λ ys. map f (h x) ++ ys) (map-flat_map f h xs)

  pub map-filter_map : (f : B → C) (h : A → Option B) (xs : List A) → map f (filter_map h xs) ≡ filter_map (λ x. option_map f (h x)) xs
  map-filter_map f h [] = refl
  map-filter_map f h (x ∷ xs) = map-cons_option f (h x) (filter_map h xs) ∙ ap (cons_option (option_map f (h x))) (map-filter_map f h xs)

pub filter_map-alike : {A B : Type 0} (f g : A → Option B) (xs : List A) → ((x : A) → Contains xs x → f x ≡ g x) → filter_map f xs ≡ filter_map g xs
filter_map-alike f g [] same = refl
filter_map-alike f g (x ∷ xs) same =
    ap (λ o. cons_option o (filter_map f xs)) (same x (contains-head x xs))
    ∙ ap (cons_option (g x)) (filter_map-alike f g xs (λ y h. same y (contains-tail x y xs h)))

-- searches of a mapped list whose tests agree
module _ {A B : Type 0} (f : A → B) where
  pub any-map : (p : B → Bool) (q : A → Bool) (xs : List A) → ((x : A) → Contains xs x → p (f x) ≡ q x) → list_any p (map f xs) ≡ list_any q xs
  any-map p q [] same = refl
  any-map p q (x ∷ xs) same =
      ap (λ b. b || list_any p (map f xs)) (same x (contains-head x xs))
      ∙ ap (λ b. q x || b) (any-map p q xs (λ y h. same y (contains-tail x y xs h)))

  pub position-map : (p : B → Bool) (q : A → Bool) (i : ℕ) (xs : List A) → ((x : A) → Contains xs x → p (f x) ≡ q x) → position_from p i (map f xs) ≡ position_from q i xs
  position-map p q i [] same = refl
  position-map p q i (x ∷ xs) same =
      ap (λ b. cond b (Some i) (position_from p (i + 1) (map f xs))) (same x (contains-head x xs))
      ∙ ap (cond (q x) (Some i)) (position-map p q (i + 1) xs (λ y h. same y (contains-tail x y xs h)))

  pub at-map : (p : ℕ → B → Bool) (q : ℕ → A → Bool) (i : ℕ) (xs : List A) → ((k : ℕ) (x : A) → Contains xs x → p k (f x) ≡ q k x) → position_at p i (map f xs) ≡ position_at q i xs
  at-map p q i [] same = refl
  at-map p q i (x ∷ xs) same =
      ap (λ b. cond b (Some i) (position_at p (i + 1) (map f xs))) (same i x (contains-head x xs))
      ∙ ap (cond (q i x) (Some i)) (at-map p q (i + 1) xs (λ k y h. same k y (contains-tail x y xs h)))

  pub first-map : {C : Type 0} (p : ℕ → B → Option C) (q : ℕ → A → Option C) (i : ℕ) (xs : List A) → ((k : ℕ) (x : A) → Contains xs x → p k (f x) ≡ q k x) → first_from p i (map f xs) ≡ first_from q i xs
  first-map p q i [] same = refl
  first-map p q i (x ∷ xs) same =
      ap (λ o. found_or i o (first_from p (i + 1) (map f xs))) (same i x (contains-head x xs))
      ∙ ap (found_or i (q i x)) (first-map p q (i + 1) xs (λ k y h. same k y (contains-tail x y xs h)))
