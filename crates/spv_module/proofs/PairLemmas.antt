-- Lists of ids that are read as pairs.
use Rattle.std.proofs.Common.{◌≡◌, ℕ, zero, suc, ◌+◌, ◌*◌, ◌/◌, ◌<◌, List, [], ◌∷◌, map, length, slice_get, refl, arith}
use Rattle.spv_module.specs.Insts.{pairs_of}

pub pairs_len : (ids : List ℕ) → length ids / 2 ≡ length (map (λ (e : ℕ × ℕ). e.0) (pairs_of ids))
pairs_len [] = refl
pairs_len (id ∷ []) = refl
pairs_len (value ∷ parent ∷ ids) = let h = pairs_len ids in omega (arith, h)

pub pairs_within : (ids : List ℕ) (i : ℕ) → i < length (pairs_of ids) → 2 * i + 1 < length ids
pairs_within [] i lt = omega (arith, lt)
pairs_within (id ∷ []) i lt = omega (arith, lt)
pairs_within (value ∷ parent ∷ ids) zero lt = omega (arith)
pairs_within (value ∷ parent ∷ ids) (suc i) lt = let within : i < length (pairs_of ids) = omega (arith, lt) in let h = pairs_within ids i within in omega (arith, h)

pub pair_value : (ids : List ℕ) (i : ℕ) → i < length (pairs_of ids) → slice_get (map (λ (e : ℕ × ℕ). e.0) (pairs_of ids)) i ≡ slice_get ids (2 * i)
pair_value [] i lt = absurd (omega (arith, lt))
pair_value (id ∷ []) i lt = absurd (omega (arith, lt))
pair_value (value ∷ parent ∷ ids) zero lt = refl
pair_value (value ∷ parent ∷ ids) (suc i) lt =
    let within : i < length (pairs_of ids) = omega (arith, lt) in
    let e : 2 * suc i ≡ suc (suc (2 * i)) = omega (arith) in
    rw e (pair_value ids i within)

pub pair_parent : (ids : List ℕ) (i : ℕ) → i < length (pairs_of ids) → slice_get (map (λ (e : ℕ × ℕ). e.1) (pairs_of ids)) i ≡ slice_get ids (2 * i + 1)
pair_parent [] i lt = absurd (omega (arith, lt))
pair_parent (id ∷ []) i lt = absurd (omega (arith, lt))
pair_parent (value ∷ parent ∷ ids) zero lt = refl
pair_parent (value ∷ parent ∷ ids) (suc i) lt =
    let within : i < length (pairs_of ids) = omega (arith, lt) in
    let e : 2 * suc i + 1 ≡ suc (suc (2 * i + 1)) = omega (arith) in
    rw e (pair_parent ids i within)
