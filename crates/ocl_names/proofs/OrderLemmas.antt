-- Orders and storage bits in a number
use Rattle.std.proofs.Common.{◌≡◌, ◌↔◌, ◌⊎◌, ℕ, zero, suc, ◌+◌, ◌-◌, ◌*◌, ◌/◌, ◌%◌, ◌^◌, ◌≤◌, ◌<◌, bit_and, count_ones, arith, Bool, true, false, cond, ◌&&◌, Option, Some, None, is_some, is_none, IsNone, nat_eq, nat_lt, refl, sym, ap, ◌∙◌, subst, inl, inr, lit<, lit≤}
use lib.Count.{ones}
use Rattle.std.specs.Option.{option_map}
use Rattle.std.proofs.lemmas.Bool.{and_parts, cases_eq, eqb-true, ltb-true, false≢true}
use Rattle.std.proofs.lemmas.Nat.{and_le_l, and_block}
use Rattle.std.proofs.lemmas.Nat.Bits.{and_high}
use Rattle.ocl_names.specs.declared.ordering.Ordering.{Ordering}
use Rattle.ocl_names.specs.declared.ordering.Ordering.TheVariants.{Relaxed, Acquire, Release, AcquireRelease, SeqCst}
use Rattle.ocl_names.specs.Orders.{order_number, orders, order_mask, order_with, order_parts, IsStorage, HasTwoOrders, HasOtherBits}
use Rattle.ocl_names.specs.Laws.{kept_bits, NumbersAreSums}
use Rattle.ocl_names.proofs.SearchLemmas.{find_passes, option_map_some, option_map_none}

-- the storage bits of a number are its third part of a byte's length
pub storage_and : (mask : ℕ) → bit_and mask 0x300 ≡ (mask / 0x100 % 4) * 0x100
storage_and mask = and_high mask 2 8

pub storage_le : (mask : ℕ) → bit_and mask 0x300 ≤ mask
storage_le mask = and_le_l mask 0x300

pub storage_part : (mask : ℕ) → IsStorage (bit_and mask 0x300)
storage_part mask = let e = storage_and mask in (omega arith, omega arith)

order_found : (order : Ordering) → order_with (order_number order) ≡ Some order
order_found Relaxed = refl
order_found Acquire = refl
order_found Release = refl
order_found AcquireRelease = refl
order_found SeqCst = refl

pub order_small : (order : Ordering) → order_number order ≤ 0x10
order_small Relaxed = lit≤ tt
order_small Acquire = lit≤ tt
order_small Release = lit≤ tt
order_small AcquireRelease = lit≤ tt
order_small SeqCst = lit≤ tt

-- what has an order and storage bits is their sum
is_sum : (mask : ℕ) (order : Ordering) (bits : ℕ) → order_parts mask ≡ Some (order, bits) → (mask ≡ order_number order + bits) × IsStorage bits
unfolding order_parts
is_sum mask order bits e =
    option_map_some (λ o. (o, bit_and mask 0x300)) (order_with (mask - bit_and mask 0x300)) (order, bits) e
    (λ o found same.
    let passes = find_passes (λ o. nat_eq (order_number o) (mask - bit_and mask 0x300)) orders o found in
    let numbered : order_number o ≡ mask - bit_and mask 0x300 = eqb-true (order_number o) (mask - bit_and mask 0x300) passes in
    let of_order : order_number o ≡ order_number order = ap (λ p. order_number p.0) same in
    let of_bits : bit_and mask 0x300 ≡ bits = ap (λ p. p.1) same in
    let within = storage_le mask in
    (omega arith, subst IsStorage of_bits (storage_part mask)))

-- the order of a number beside these bits, with them
abbrev parts_beside : ℕ → ℕ → Option (Ordering × ℕ)
parts_beside mask bits = option_map (λ o. (o, bits)) (order_with (mask - bits))

-- and a sum has them
sum_of_parts : (mask masked bits : ℕ) (order : Ordering) → masked ≡ bits → mask - bits ≡ order_number order → parts_beside mask masked ≡ Some (order, bits)
sum_of_parts mask masked bits order storage rest =
    ap (parts_beside mask) storage
    ∙ ap (λ n. option_map (λ o. (o, bits)) (order_with n)) rest
    ∙ ap (option_map (λ o. (o, bits))) (order_found order)

sum_found : (mask : ℕ) (order : Ordering) (bits : ℕ) → mask ≡ order_number order + bits → IsStorage bits → order_parts mask ≡ Some (order, bits)
unfolding order_parts
sum_found mask order bits sum storage =
    let small = order_small order in
    sum_of_parts mask (bit_and mask 0x300) bits order (omega (arith, storage_and mask, storage.0, storage.1)) (omega arith)

parts_undo : (order : Ordering) (bits : ℕ) → IsStorage bits → order_parts (order_mask order bits) ≡ Some (order, kept_bits order bits)
parts_undo Relaxed bits storage = sum_found 0 Relaxed 0 refl (refl, lit< tt)
parts_undo Acquire bits storage = sum_found (0x2 + bits) Acquire bits refl storage
parts_undo Release bits storage = sum_found (0x4 + bits) Release bits refl storage
parts_undo AcquireRelease bits storage = sum_found (0x8 + bits) AcquireRelease bits refl storage
parts_undo SeqCst bits storage = sum_found (0x10 + bits) SeqCst bits refl storage

-- a test that holds of each number below a bound
abbrev all_below : (ℕ → Bool) → ℕ → Bool
all_below p zero = true
all_below p (suc n) = p n && all_below p n

all_below-at : (p : ℕ → Bool) (n k : ℕ) → all_below p n ≡ true → k < n → p k ≡ true
all_below-at p zero k all within = absurd (omega arith)
all_below-at p (suc n) k all within =
    elim (cases_eq k n) [
      | inl same ↦ ap p same ∙ (and_parts (p n) (all_below p n) all).0
      | inr other ↦ all_below-at p n k (and_parts (p n) (all_below p n) all).1 (omega arith)
    ]

-- of the even numbers up to 30 those with two ones are no order's
abbrev agrees : ℕ → Bool
agrees half = cond (nat_lt 1 (count_ones (half * 2))) (is_none (order_with (half * 2))) (is_some (order_with (half * 2)))

all_agree : all_below agrees 16 ≡ true
unfolding ones
all_agree = refl

tells_none : (b : Bool) (r : Option Ordering) → cond b (is_none r) (is_some r) ≡ true → r ≡ None → b ≡ true
tells_none true r e none = refl
tells_none false None e none = absurd (false≢true e)
tells_none false (Some o) e none = absurd (cc)

one_bit : (order : Ordering) → count_ones (order_number order) ≤ 1
unfolding ones
one_bit Relaxed = lit≤ tt
one_bit Acquire = lit≤ tt
one_bit Release = lit≤ tt
one_bit AcquireRelease = lit≤ tt
one_bit SeqCst = lit≤ tt

-- the bits of orders, and those with the storage bits
pub order_and : (mask : ℕ) → bit_and mask 0x1E ≡ (mask / 2 % 16) * 2
order_and mask = and_high mask 4 1

known_and : (mask : ℕ) → bit_and mask 0x31E ≡ (mask / 0x100 % 4) * 0x100 + (mask / 2 % 16) * 2
known_and mask =
    let split : mask ≡ (mask / 2 ^ 5) * 2 ^ 5 + mask % 2 ^ 5 = omega arith in
    let low : mask % 2 ^ 5 < 2 ^ 5 = omega arith in
    ap (λ m. bit_and m 0x31E) split
    ∙ and_block 5 (mask / 2 ^ 5) 24 (mask % 2 ^ 5) 30 low (lit< tt)
    ∙ ap (λ n. n * 2 ^ 5 + bit_and (mask % 2 ^ 5) 30) (and_high (mask / 2 ^ 5) 2 3)
    ∙ ap (λ n. (mask / 2 ^ 5 / 2 ^ 3 % 2 ^ 2) * 2 ^ 3 * 2 ^ 5 + n) (and_high (mask % 2 ^ 5) 4 1)
    ∙ omega arith

pub order_even : (order : Ordering) → (order_number order / 2 % 16) * 2 ≡ order_number order
order_even Relaxed = refl
order_even Acquire = refl
order_even Release = refl
order_even AcquireRelease = refl
order_even SeqCst = refl

-- a number that has none
is_refused : (mask : ℕ) → order_parts mask ≡ None → HasTwoOrders mask ⊎ HasOtherBits mask
unfolding order_parts
is_refused mask e =
    elim (cases_eq (bit_and mask 0x31E) mask) [
      | inr other ↦ inr other
      | inl known ↦ inl (
          let half : mask - bit_and mask 0x300 ≡ (mask / 2 % 16) * 2 = omega (arith, storage_and mask, known_and mask) in
          let below : mask / 2 % 16 < 16 = omega arith in
          let none : order_with ((mask / 2 % 16) * 2) ≡ None =
          ap order_with (sym half) ∙ option_map_none (λ o. (o, bit_and mask 0x300)) (order_with (mask - bit_and mask 0x300)) e in
          let two = tells_none (nat_lt 1 (count_ones ((mask / 2 % 16) * 2))) (order_with ((mask / 2 % 16) * 2)) (all_below-at agrees 16 (mask / 2 % 16) all_agree below) none in
          rw (order_and mask) (ltb-true 1 (count_ones ((mask / 2 % 16) * 2)) two))
    ]

not_refused : (mask : ℕ) (order : Ordering) (bits : ℕ) → order_parts mask ≡ Some (order, bits) → HasTwoOrders mask ⊎ HasOtherBits mask → ⊥
not_refused mask order bits e (inl two) =
    let h = is_sum mask order bits e in
    let sum = h.0 in
    let aligned = h.1.0 in
    let small = order_small order in
    let even = order_even order in
    let orders : bit_and mask 0x1E ≡ order_number order = order_and mask ∙ omega arith in
    let ones = one_bit order in
    omega (arith, ap count_ones orders)
not_refused mask order bits e (inr other) =
    let h = is_sum mask order bits e in
    let sum = h.0 in
    let aligned = h.1.0 in
    let below = h.1.1 in
    let small = order_small order in
    let even = order_even order in
    other (known_and mask ∙ omega arith)

refused : (mask : ℕ) (r : Option (Ordering × ℕ)) → order_parts mask ≡ r → HasTwoOrders mask ⊎ HasOtherBits mask → r ≡ None
refused mask None e h = refl
refused mask (Some (order, bits)) e h = absurd (not_refused mask order bits e h)

-- when `order_of` gives nothing
pub no_order : (mask : ℕ) (r : Option (Ordering × ℕ)) → r ≡ order_parts mask → IsNone r ↔ (HasTwoOrders mask ⊎ HasOtherBits mask)
no_order mask None e = (λ _. is_refused mask (sym e), λ _. refl)
no_order mask (Some (order, bits)) e = (λ none. absurd (cc), λ h. absurd (not_refused mask order bits (sym e) h))

pub are_sums : NumbersAreSums
are_sums = record {
  sums = λ mask order bits. (is_sum mask order bits, λ h. sum_found mask order bits h.0 h.1);
  none = λ mask. (is_refused mask, refused mask (order_parts mask) refl);
  undoes = parts_undo;
}
