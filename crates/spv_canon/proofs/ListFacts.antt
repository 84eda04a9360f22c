-- Places in lists, where each member stands once.
use Rattle.std.proofs.Common.{◌≡◌, ℕ, zero, suc, ◌+◌, ◌<◌, Bool, true, false, cond, List, [], ◌∷◌, ◌++◌, length, refl, sym, ◌∙◌, ap, subst, arith, Option, Some, None}
use Rattle.std.specs.Prelude.{slice_get, is_some, nat_eq}
use Rattle.std.specs.Option.{option_map}
use Rattle.std.proofs.lemmas.Bool.Decides.{nat_tests}
use Rattle.std.proofs.lemmas.Option.{slice_get_within}
use Rattle.inst_walk.specs.Places.{place_of, is_among}
use Rattle.spv_canon.specs.Sound.{EachOnce}

pub some-is : {A : Type 0} (x y : A) → Some x ≡ Some y → x ≡ y
some-is x y e = cc

pub get-front : {A : Type 0} (xs ys : List A) (i : ℕ) (x : A) → slice_get xs i ≡ Some x → slice_get (xs ++ ys) i ≡ Some x
get-front [] ys i x at = let none : i < 0 = slice_get_within [] i x at in absurd (omega arith)
get-front (y ∷ xs) ys zero x at = at
get-front (y ∷ xs) ys (suc i) x at = get-front xs ys i x at

pub get-behind : {A : Type 0} (xs ys : List A) (i n : ℕ) → n ≡ length xs + i → slice_get (xs ++ ys) n ≡ slice_get ys i
get-behind [] ys i n is = let same : n ≡ i = omega arith in ap (slice_get ys) same
get-behind (x ∷ xs) ys i zero is = absurd (omega arith)
get-behind (x ∷ xs) ys i (suc n) is = get-behind xs ys i n (omega arith)

-- the first place of a member
pub record IsFound (ids : List ℕ) (id : ℕ) : Type 0 where
  pub place : ℕ
  pub found : place_of nat_eq ids id ≡ Some place
  pub there : slice_get ids place ≡ Some id

nat-same : (n m : ℕ) → nat_eq n m ≡ true → n ≡ m
nat-same n m e = grind (arith, nat_tests)

found-at : (b : Bool) (first id : ℕ) (ids : List ℕ) → nat_eq first id ≡ b → (b ≡ false → IsFound ids id) → IsFound (first ∷ ids) id
found-at true first id ids e rest = record {
  place = 0;
  found = ap (λ t. cond t (Some 0) (option_map suc (place_of nat_eq ids id))) e;
  there = ap Some (nat-same first id e);
}
found-at false first id ids e rest =
    let later : IsFound ids id = rest refl in
    record {
      place = suc later.place;
      found = ap (λ t. cond t (Some 0) (option_map suc (place_of nat_eq ids id))) e ∙ ap (option_map suc) later.found;
      there = later.there;
    }

pub found-member : (ids : List ℕ) (id place : ℕ) → slice_get ids place ≡ Some id → IsFound ids id
found-member [] id place at = let none : place < 0 = slice_get_within [] place id at in absurd (omega arith)
found-member (first ∷ ids) id zero at =
    let same = some-is first id at in
    found-at (nat_eq first id) first id ids refl (λ no_e. absurd (apart first id same no_e))
  where
    apart : (n m : ℕ) → n ≡ m → nat_eq n m ≡ false → ⊥
    apart n m e no_e = grind (arith, nat_tests)
found-member (first ∷ ids) id (suc place) at = found-at (nat_eq first id) first id ids refl (λ no_e. found-member ids id place at)

-- a member that stands once is found where it stands
pub found-once : (ids : List ℕ) (id place : ℕ) → EachOnce ids → slice_get ids place ≡ Some id → place_of nat_eq ids id ≡ Some place
found-once ids id place once at =
    let found = found-member ids id place at in
    found.found ∙ ap Some (once found.place place id found.there at)

-- a found member stands there
none-is : {A : Type 0} (x : A) → None ≡ Some x → ⊥
none-is x e = cc

pub stands : (ids : List ℕ) (id place : ℕ) → place_of nat_eq ids id ≡ Some place → slice_get ids place ≡ Some id
stands [] id place e = absurd (none-is place e)
stands (first ∷ ids) id place e = by (nat_eq first id) refl (λ q. stands ids id q)
  where
    behind : (o : Option ℕ) → place_of nat_eq ids id ≡ o → option_map suc (place_of nat_eq ids id) ≡ Some place
        → ((q : ℕ) → place_of nat_eq ids id ≡ Some q → slice_get ids q ≡ Some id) → slice_get (first ∷ ids) place ≡ Some id
    behind None none at later = absurd (none-is place (sym (ap (option_map suc) none) ∙ at))
    behind (Some q) some at later =
        let next : suc q ≡ place = some-is (suc q) place (sym (ap (option_map suc) some) ∙ at) in
        subst (λ (r : ℕ). slice_get (first ∷ ids) r ≡ Some id) next (later q some)

    by : (b : Bool) → nat_eq first id ≡ b → ((q : ℕ) → place_of nat_eq ids id ≡ Some q → slice_get ids q ≡ Some id) → slice_get (first ∷ ids) place ≡ Some id
    by true is later =
        let zero_is : 0 ≡ place = some-is 0 place (sym (ap (λ t. cond t (Some 0) (option_map suc (place_of nat_eq ids id))) is) ∙ e) in
        subst (λ (q : ℕ). slice_get (first ∷ ids) q ≡ Some id) zero_is (ap Some (nat-same first id is))
    by false is later = behind (place_of nat_eq ids id) refl (sym (ap (λ t. cond t (Some 0) (option_map suc (place_of nat_eq ids id))) is) ∙ e) later

-- the halves of a list in which each member stands once
pub once-front : (xs ys : List ℕ) → EachOnce (xs ++ ys) → EachOnce xs
once-front xs ys once i j id at there = once i j id (get-front xs ys i id at) (get-front xs ys j id there)

pub once-behind : (xs ys : List ℕ) → EachOnce (xs ++ ys) → EachOnce ys
once-behind xs ys once i j id at there =
    let same = once (length xs + i) (length xs + j) id (get-behind xs ys i (length xs + i) refl ∙ at) (get-behind xs ys j (length xs + j) refl ∙ there) in
    omega arith

-- no member of the second half is one of the first
pub not-among : (xs ys : List ℕ) (id place : ℕ) → EachOnce (xs ++ ys) → slice_get ys place ≡ Some id → is_among nat_eq xs id ≡ false
not-among xs ys id place once at = by (place_of nat_eq xs id) refl
  where
    by : (o : Option ℕ) → place_of nat_eq xs id ≡ o → is_some (place_of nat_eq xs id) ≡ false
    by None none = ap is_some none
    by (Some p) some =
        let there = stands xs id p some in
        let within : p < length xs = slice_get_within xs p id there in
        let same = once p (length xs + place) id (get-front xs ys p id there) (get-behind xs ys place (length xs + place) refl ∙ at) in
        absurd (omega arith)
