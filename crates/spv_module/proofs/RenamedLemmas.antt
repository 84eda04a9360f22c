-- A list that a loop changes from the front on.
use Rattle.std.proofs.Common.{◌≡◌, ℕ, zero, suc, ◌+◌, ◌<◌, List, [], ◌∷◌, ◌++◌, map, length, take, drop, get_or, slice_set, refl, ap, arith, add-one}

one_more_suc : (f : ℕ → ℕ) (ids : List ℕ) (i d : ℕ) → i < length ids → slice_set (map f (take i ids) ++ drop i ids) i (f (get_or (map f (take i ids) ++ drop i ids) i d)) ≡ map f (take (suc i) ids) ++ drop (suc i) ids
one_more_suc f [] i d lt = absurd (omega (arith, lt))
one_more_suc f (id ∷ ids) zero d lt = refl
one_more_suc f (id ∷ ids) (suc i) d lt = let behind : i < length ids = omega (arith, lt) in ap (λ rest. f id ∷ rest) (one_more_suc f ids i d behind)

-- one more element is changed, where all before it are
pub one_more : (f : ℕ → ℕ) (ids : List ℕ) (i d : ℕ) → i < length ids → slice_set (map f (take i ids) ++ drop i ids) i (f (get_or (map f (take i ids) ++ drop i ids) i d)) ≡ map f (take (i + 1) ids) ++ drop (i + 1) ids
one_more f ids i d lt = rw add-one (one_more_suc f ids i d lt)
