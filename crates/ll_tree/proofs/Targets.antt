-- An item of a list behind another, and of a list that is mapped.
use Rattle.std.proofs.Common.{◌≡◌, ℕ, zero, suc, ◌-◌, ◌<◌, List, [], ◌∷◌, map, length, get_or, slice_get, Some, refl, ap, arith}

pub got_behind : {A : Type 0} (x : A) (xs : List A) (i : ℕ) → (i ≡ 0 → ⊥) → slice_get (x ∷ xs) i ≡ slice_get xs (i - 1)
got_behind x xs zero h = absurd (h refl)
got_behind x xs (suc i) h = ap (slice_get xs) (omega arith)

pub got_mapped : {A B : Type 0} (f : B → ℕ) (g : A → B) (xs : List A) (i : ℕ) (d : A) → i < length xs → slice_get (map f (map g xs)) i ≡ Some (f (g (get_or xs i d)))
got_mapped f g [] i d lt = absurd (omega arith)
got_mapped f g (x ∷ xs) zero d lt = refl
got_mapped f g (x ∷ xs) (suc i) d lt = got_mapped f g xs i d (omega arith)
