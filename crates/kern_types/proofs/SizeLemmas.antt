-- Sizes that are kept up to one byte above the greatest one
use Rattle.std.proofs.Common.{◌≡◌, ℕ, ◌+◌, ◌^◌, ◌<◌, List, [], ◌∷◌, inl, inr, refl, ap, ◌∙◌, arith}
use Rattle.std.specs.Int.{next_multiple_of}
use Rattle.std.proofs.lemmas.Bool.{cases_lt}
use Rattle.kern_types.specs.declared.layout.Layout.{Layout}
use Rattle.kern_types.specs.Layouts.{end_after, greatest_align}
use Rattle.kern_types.specs.Kept.{capped_size}

-- two sizes are kept as one
abbrev pub KeptAlike : ℕ → ℕ → Type 0
KeptAlike x y = capped_size x ≡ capped_size y

pub KeptAlike-capped : (x : ℕ) → KeptAlike x (capped_size x)
KeptAlike-capped x = omega arith

pub KeptAlike-add : (x y s t : ℕ) → KeptAlike x y → KeptAlike s t → KeptAlike (x + s) (y + t)
KeptAlike-add x y s t alike parts = omega arith

pub KeptAlike-next : (x y a : ℕ) → KeptAlike x y → KeptAlike (next_multiple_of x a) (next_multiple_of y a)
KeptAlike-next x y a alike =
    elim (cases_lt x (2 ^ 40 + 1)) [
      | inl low ↦ let same : x ≡ y = omega arith in ap (λ n. capped_size (next_multiple_of n a)) same
      | inr high ↦ omega arith
    ]

-- layouts with equal parts are equal
pub layout_same : (s t a b : ℕ) → s ≡ t → a ≡ b → let l : Layout = record { size = s; align = a } in let m : Layout = record { size = t; align = b } in l ≡ m
layout_same s t a b sizes aligns =
    let first : ℕ → Layout = λ n. record { size = n; align = a } in
    let second : ℕ → Layout = λ n. record { size = t; align = n } in
    ap first sizes ∙ ap second aligns

-- where members end depends on no more of the start than what is kept
pub KeptAlike-end : (x y : ℕ) (members : List Layout) → KeptAlike x y → KeptAlike (end_after x members) (end_after y members)
unfolding end_after
KeptAlike-end x y [] alike = alike
KeptAlike-end x y (m ∷ ms) alike =
    KeptAlike-end (next_multiple_of x m.align + m.size) (next_multiple_of y m.align + m.size) ms (KeptAlike-add (next_multiple_of x m.align) (next_multiple_of y m.align) m.size m.size (KeptAlike-next x y m.align alike) refl)

pub greatest_align_pos : (members : List Layout) → 0 < greatest_align members
unfolding greatest_align
greatest_align_pos [] = omega arith
greatest_align_pos (m ∷ ms) = omega (arith, greatest_align_pos ms)
