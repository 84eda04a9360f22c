-- The digits of a number
use Rattle.std.proofs.Common.{◌≡◌, ℕ, zero, suc, ◌+◌, ◌-◌, ◌*◌, ◌/◌, ◌%◌, ◌^◌, ◌<◌, ◌≤◌, List, [], ◌∷◌, ◌++◌, length, take, drop, get_or, set, All, refl, sym, ap, ◌∙◌, arith, add-one, drop-cons, add_comm, append_assoc, append-nil, pow_pos, length-set}
use Rattle.std.proofs.Math.Nat.{mul-suc, mul-zero, mul_comm}
use Rattle.std.proofs.lemmas.Nat.{pow-add, mul-add-lt, shr_below, div-add-mod', mod-mul-add, div-mul-add}
use Rattle.std.proofs.lemmas.List.{take_more_set, take_all, drop_all}
use Rattle.kern_lanes.specs.declared.width.Width.{Width}
use Rattle.kern_lanes.specs.declared.width.Width.TheVariants.{W1, W8, W16, W32, W64}
use Rattle.kern_lanes.specs.Widths.{bits_of, IsLane}
use Rattle.kern_lanes.proofs.SignedLemmas.{value_count_le}
use Rattle.kern_lanes.specs.Regrouping.{digits, from_digits, part_count}

-- the bits of the parts are those of the lane
pub part_bits : (from to : Width) → bits_of to ≤ bits_of from → bits_of to * part_count from to ≡ bits_of from
part_bits W1 W1 h = refl
part_bits W1 W8 h = absurd (omega arith)
part_bits W1 W16 h = absurd (omega arith)
part_bits W1 W32 h = absurd (omega arith)
part_bits W1 W64 h = absurd (omega arith)
part_bits W8 W1 h = refl
part_bits W8 W8 h = refl
part_bits W8 W16 h = absurd (omega arith)
part_bits W8 W32 h = absurd (omega arith)
part_bits W8 W64 h = absurd (omega arith)
part_bits W16 W1 h = refl
part_bits W16 W8 h = refl
part_bits W16 W16 h = refl
part_bits W16 W32 h = absurd (omega arith)
part_bits W16 W64 h = absurd (omega arith)
part_bits W32 W1 h = refl
part_bits W32 W8 h = refl
part_bits W32 W16 h = refl
part_bits W32 W32 h = refl
part_bits W32 W64 h = absurd (omega arith)
part_bits W64 W1 h = refl
part_bits W64 W8 h = refl
part_bits W64 W16 h = refl
part_bits W64 W32 h = refl
part_bits W64 W64 h = refl

-- a digit more is written, and the rest is divided
pub digits-step : (bits count a : ℕ) → 0 < count → digits bits count a ≡ (a % 2 ^ bits) ∷ digits bits (count - 1) (a / 2 ^ bits)
unfolding digits
digits-step bits zero a h = absurd (omega arith)
digits-step bits (suc count) a h = ap (λ n. (a % 2 ^ bits) ∷ digits bits n (a / 2 ^ bits)) (omega arith)

-- no digit is left
pub digits-zero : (bits a : ℕ) → digits bits 0 a ≡ []
unfolding digits
digits-zero bits a = refl

-- as many digits as were asked for
pub length-digits : (bits count a : ℕ) → length (digits bits count a) ≡ count
unfolding digits
length-digits bits zero a = refl
length-digits bits (suc count) a = ap suc (length-digits bits count (a / 2 ^ bits))

-- the power of one place more
pub pow-place : (bits n : ℕ) → 2 ^ (bits * suc n) ≡ 2 ^ bits * 2 ^ (bits * n)
pow-place bits n = ap (λ k. 2 ^ k) (mul-suc bits n ∙ add_comm (bits * n) bits) ∙ pow-add 2 bits (bits * n)

-- digits below the base make a number below its power
pub from_digits-lt : (bits : ℕ) (parts : List ℕ) → All (λ p. p < 2 ^ bits) parts → from_digits bits parts < 2 ^ (bits * length parts)
unfolding from_digits
from_digits-lt bits [] below = omega (arith, pow_pos (bits * 0))
from_digits-lt bits (p ∷ parts) below =
    let rest = from_digits-lt bits parts (λ k d lt. below (suc k) d (omega arith)) in
    let place = mul-add-lt (from_digits bits parts) (2 ^ bits) p (2 ^ (bits * length parts)) rest (below 0 p (omega arith)) in
    omega (arith, pow-place bits (length parts), place)

-- the number is that of its lowest digits, and the rest counted in powers of the base
pub from_digits-drop : (bits : ℕ) (parts : List ℕ) (i : ℕ) → i < length parts → from_digits bits (drop i parts) ≡ get_or parts i 0 + from_digits bits (drop (i + 1) parts) * 2 ^ bits
unfolding from_digits
from_digits-drop bits parts i h = rw (add-one, drop-cons parts i 0) refl

-- one step of cutting: a digit is written at i, and the rest stands for the digits that are still to come
pub split_step : (bits : ℕ) (out : List ℕ) (i rest base a : ℕ) → i < length out → base ≡ 2 ^ bits → take i out ++ digits bits (length out - i) rest ≡ digits bits (length out) a → take (i + 1) (set out i (rest % base)) ++ digits bits (length (set out i (rest % base)) - (i + 1)) (rest / base) ≡ digits bits (length (set out i (rest % base))) a
split_step bits out i rest base a inside base_is kept =
    let count : length out - i - 1 ≡ length out - (i + 1) = omega arith in
    let cut = digits-step bits (length out - i) rest (omega arith) in
    rw (length-set out i (rest % base), take_more_set out i (rest % base) inside, append_assoc (take i out) ((rest % base) ∷ []) (digits bits (length out - (i + 1)) (rest / base)), base_is, ← count, ← cut) kept

-- one step of joining: a digit counts as often as its place says
pub join_step : (bits : ℕ) (parts : List ℕ) (i number scale digit base : ℕ) → i < length parts → digit ≡ get_or parts i 0 → base ≡ 2 ^ bits → number + from_digits bits (drop i parts) * scale ≡ from_digits bits parts → number + digit * scale + from_digits bits (drop (i + 1) parts) * (scale * base) ≡ from_digits bits parts
join_step bits parts i number scale digit base inside digit_is base_is kept =
    rw (digit_is, base_is) (omega (arith, kept, ap (λ n. n * scale) (from_digits-drop bits parts i inside)))

-- the next place counts the base times as much
pub scale_step : (bits i scale base : ℕ) → scale ≡ 2 ^ (bits * i) → base ≡ 2 ^ bits → scale * base ≡ 2 ^ (bits * (i + 1))
scale_step bits i scale base scale_is base_is =
    rw (scale_is, base_is, add-one) (mul_comm (2 ^ (bits * i)) (2 ^ bits) ∙ sym (pow-place bits i))

-- the parts of a lane make a lane
pub joined-lt : (from to : Width) (parts : List ℕ) → All (IsLane to) parts → bits_of to ≤ bits_of from → length parts ≡ part_count from to → from_digits (bits_of to) parts < 2 ^ 64
joined-lt from to parts lanes narrower count =
    let below : from_digits (bits_of to) parts < 2 ^ (bits_of to * length parts) = from_digits-lt (bits_of to) parts lanes in
    let whole : bits_of to * length parts ≡ bits_of from = ap (λ n. bits_of to * n) count ∙ part_bits from to narrower in
    let same : 2 ^ (bits_of to * length parts) ≡ 2 ^ bits_of from = ap (λ n. 2 ^ n) whole in
    omega (arith, value_count_le from)

-- all digits are written
pub split_end : (bits : ℕ) (out : List ℕ) (i rest a : ℕ) → length out ≤ i → take i out ++ digits bits (length out - i) rest ≡ digits bits (length out) a → out ≡ digits bits (length out) a
split_end bits out i rest a past kept =
    let none : length out - i ≡ 0 = omega arith in
    let all = ap (λ n. take i out ++ digits bits n rest) none in
    let front = take_all i out past in
    let nothing = digits-zero bits rest in
    sym (append-nil out) ∙ ap (λ xs. out ++ xs) (sym nothing) ∙ ap (λ xs. xs ++ digits bits 0 rest) (sym front) ∙ sym all ∙ kept

-- all digits are counted
pub join_end : (bits : ℕ) (parts : List ℕ) (i number scale : ℕ) → length parts ≤ i → number + from_digits bits (drop i parts) * scale ≡ from_digits bits parts → number ≡ from_digits bits parts
unfolding from_digits
join_end bits parts i number scale past kept =
    let none = ap (λ xs. from_digits bits xs * scale) (drop_all i parts past) in
    omega (arith, none, kept)

-- the digits of a number make the number
pub from_digits-digits : (bits count a : ℕ) → a < 2 ^ (bits * count) → from_digits bits (digits bits count a) ≡ a
unfolding from_digits digits
from_digits-digits bits zero a below = let one : 2 ^ (bits * 0) ≡ 1 = ap (λ n. 2 ^ n) (mul-zero bits) in omega arith
from_digits-digits bits (suc count) a below =
    let split : bits * suc count ≡ bits * count + bits = mul-suc bits count in
    let within : a < 2 ^ (bits * count + bits) = rw (← split) below in
    let rest = from_digits-digits bits count (a / 2 ^ bits) (shr_below a (bits * count) bits within) in
    rw rest (add_comm (a % 2 ^ bits) (a / 2 ^ bits * 2 ^ bits) ∙ div-add-mod' a (2 ^ bits))

-- digits are those of the number that they make
pub digits-from_digits : (bits : ℕ) (parts : List ℕ) → All (λ p. p < 2 ^ bits) parts → digits bits (length parts) (from_digits bits parts) ≡ parts
unfolding from_digits digits
digits-from_digits bits [] below = refl
digits-from_digits bits (p ∷ parts) below =
    let rest = digits-from_digits bits parts (λ k d lt. below (suc k) d (omega arith)) in
    let small : p < 2 ^ bits = below 0 p (omega arith) in
    let turned = add_comm p (from_digits bits parts * 2 ^ bits) in
    let low = ap (λ n. n % 2 ^ bits) turned ∙ mod-mul-add (from_digits bits parts) (2 ^ bits) p small in
    let high = ap (λ n. n / 2 ^ bits) turned ∙ div-mul-add (from_digits bits parts) (2 ^ bits) p small in
    rw (low, high, rest) refl
