-- Lists of pairs whose second parts are one.
use Rattle.std.proofs.Common.{◌≡◌, ℕ, List, [], ◌∷◌, map, replicate, length, refl, ap}

pub paired_first : (b : ℕ) (xs : List ℕ) → map (λ (p : ℕ × ℕ). p.0) (map (λ value. (value, b)) xs) ≡ xs
paired_first b [] = refl
paired_first b (x ∷ xs) = ap (λ ys. x ∷ ys) (paired_first b xs)

pub paired_second : (b : ℕ) (xs : List ℕ) → map (λ (p : ℕ × ℕ). p.1) (map (λ value. (value, b)) xs) ≡ replicate (length xs) b
paired_second b [] = refl
paired_second b (x ∷ xs) = ap (λ ys. b ∷ ys) (paired_second b xs)
