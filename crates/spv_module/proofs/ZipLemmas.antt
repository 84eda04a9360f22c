-- Two lists that a loop goes through together.
use Rattle.std.proofs.Common.{◌≡◌, ℕ, zero, suc, ◌+◌, ◌<◌, ◌≤◌, min, List, [], ◌∷◌, ◌++◌, flat_map, length, take, get_or, refl, ap, sym, arith, add-one}
use Rattle.std.specs.List.{zip}
use Rattle.std.proofs.lemmas.Grind.{flat_map-append}
use Rattle.std.proofs.lemmas.List.{append-nil}

module _ {A B : Type 0} where
  take_zip : (xs : List A) (ys : List B) (i : ℕ) (d : A) (e : B) → i < length xs → i < length ys → take (suc i) (zip xs ys) ≡ take i (zip xs ys) ++ (get_or xs i d, get_or ys i e) ∷ []
  take_zip [] ys i d e first second = absurd (omega (arith, first))
  take_zip (a ∷ xs) [] i d e first second = absurd (omega (arith, second))
  take_zip (a ∷ xs) (b ∷ ys) zero d e first second = refl
  take_zip (a ∷ xs) (b ∷ ys) (suc i) d e first second =
      let behind : i < length xs = omega (arith, first) in
      let behind_too : i < length ys = omega (arith, second) in
      ap (λ rest. (a, b) ∷ rest) (take_zip xs ys i d e behind behind_too)

  -- all pairs
  pub zipped_all : (xs : List A) (ys : List B) (n : ℕ) → min (length xs) (length ys) ≤ n → take n (zip xs ys) ≡ zip xs ys
  zipped_all [] ys zero le = refl
  zipped_all [] ys (suc n) le = refl
  zipped_all (a ∷ xs) [] zero le = refl
  zipped_all (a ∷ xs) [] (suc n) le = refl
  zipped_all (a ∷ xs) (b ∷ ys) zero le = absurd (omega (arith, le))
  zipped_all (a ∷ xs) (b ∷ ys) (suc n) le = let behind : min (length xs) (length ys) ≤ n = omega (arith, le) in ap (λ rest. (a, b) ∷ rest) (zipped_all xs ys n behind)

-- one more pair
pub zipped_more : {A B C : Type 0} (f : A × B → List C) (xs : List A) (ys : List B) (i : ℕ) (d : A) (e : B) → i < length xs → i < length ys → flat_map f (take i (zip xs ys)) ++ f (get_or xs i d, get_or ys i e) ≡ flat_map f (take (i + 1) (zip xs ys))
zipped_more f xs ys i d e first second =
    rw (add-one, take_zip xs ys i d e first second, flat_map-append f (take i (zip xs ys)) ((get_or xs i d, get_or ys i e) ∷ [])) (ap (λ rest. flat_map f (take i (zip xs ys)) ++ rest) (sym (append-nil (f (get_or xs i d, get_or ys i e)))))
