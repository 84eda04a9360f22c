-- The steps along a path
use Rattle.std.proofs.Common.{◌≡◌, ℕ, suc, ◌+◌, ◌-◌, ◌*◌, ◌%◌, ◌^◌, [], ◌∷◌, Option, Some, None, refl, sym, ap, ◌∙◌, arith}
use Rattle.std.specs.Prelude.{ℤ, pos, negsuc, ◌+ℤ◌, unsigned_abs}
use Rattle.std.proofs.Math.Nat.{add-mod}
use Rattle.std.proofs.lemmas.Int.{ints, int_rem_euclid_is}
use Rattle.kern_lanes.specs.declared.width.Width.TheVariants.{W64}
use Rattle.kern_lanes.specs.Widths.{lane}
use Rattle.kern_types.specs.declared.ty.TyId.{TyId}
use Rattle.kern_types.specs.Layouts.{◌>>=◌}
use Rattle.kern_types.specs.Steps.{Part, part_at, answered, offset_along, steps_along}
use Rattle.kern_types.specs.Laws.{StepsAddUp}

-- a whole number that is raised to a natural one by a multiple of 2 ^ 64
record Raised (z : ℤ) : Type 0 where
  times : ℕ
  natural : ℕ
  raised : z +ℤ pos (times * 2 ^ 64) ≡ pos natural

raised_from : (z : ℤ) → Raised z
raised_from (pos n) = record { times = 0; natural = n; raised = omega (arith, ints) }
raised_from (negsuc n) = record { times = suc n; natural = suc n * 2 ^ 64 - suc n; raised = omega (arith, ints) }

lane-raised : (z : ℤ) (k m : ℕ) → z +ℤ pos (k * 2 ^ 64) ≡ pos m → lane W64 z ≡ m % 2 ^ 64
unfolding lane
lane-raised z k m e = ap unsigned_abs (int_rem_euclid_is z (pos (2 ^ 64)) (2 ^ 64) k m (omega arith) refl e)

lane-add : (a b : ℤ) → lane W64 (a +ℤ b) ≡ (lane W64 a + lane W64 b) % 2 ^ 64
lane-add a b =
    let ra = raised_from a in
    let rb = raised_from b in
    let both : (a +ℤ b) +ℤ pos ((ra.times + rb.times) * 2 ^ 64) ≡ pos (ra.natural + rb.natural) = omega (arith, ints, ra.raised, rb.raised) in
    lane-raised (a +ℤ b) (ra.times + rb.times) (ra.natural + rb.natural) both
    ∙ add-mod ra.natural rb.natural (2 ^ 64)
    ∙ ap (λ n. (n + rb.natural % 2 ^ 64) % 2 ^ 64) (sym (lane-raised a ra.times ra.natural ra.raised))
    ∙ ap (λ n. (lane W64 a + n) % 2 ^ 64) (sym (lane-raised b rb.times rb.natural rb.raised))

lane-zero : lane W64 (pos 0) ≡ 0
unfolding lane
lane-zero = refl

pub steps_add_up : StepsAddUp
unfolding steps_along offset_along
steps_add_up table id [] = ap (λ n. Some (n, id)) (sym lane-zero)
steps_add_up table id (index ∷ path) = by_part (part_at table id index) (λ to. steps_add_up table to path)
  where
    by_rest : (part : Part) (rest : Option Part) → (answered rest >>= λ r. Some ((lane W64 part.0 + r.0) % 2 ^ 64, r.1)) ≡ answered (rest >>= λ r. Some (part.0 +ℤ r.0, r.1))
    by_rest part None = refl
    by_rest part (Some r) = ap (λ n. Some (n, r.1)) (sym (lane-add part.0 r.0))

    by_part : (o : Option Part) → ((to : TyId) → steps_along table to path ≡ answered (offset_along table to path)) → (answered o >>= λ step. steps_along table step.1 path >>= λ rest. Some ((step.0 + rest.0) % 2 ^ 64, rest.1)) ≡ answered (o >>= λ part. offset_along table part.1 path >>= λ rest. Some (part.0 +ℤ rest.0, rest.1))
    by_part None along = refl
    by_part (Some part) along =
        ap (λ o. o >>= λ rest. Some ((lane W64 part.0 + rest.0) % 2 ^ 64, rest.1)) (along part.1) ∙ by_rest part (offset_along table part.1 path)
