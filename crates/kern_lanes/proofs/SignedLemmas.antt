-- The signed value of a lane, and quotients of signed values
use Rattle.std.proofs.Common.{◌≡◌, ℕ, ◌+◌, ◌-◌, ◌^◌, ◌<◌, ◌≤◌, zero, suc, ◌/◌, ℤ, pos, negsuc, neg_ℤ, ◌-ℤ◌, FitsSigned, refl, arith, Option, Some, None, Ok}
use Rattle.std.specs.Prelude.{int_div}
use Rattle.std.specs.Int.{w64, w128, IsNonZero, cast_signed, cast_unsigned}
use lib.Signed.{mag}
use Rattle.std.proofs.Math.Nat.{div-le_self}
use Rattle.std.proofs.lemmas.Int.{to_z-of_z}
use Rattle.std.proofs.lemmas.Bool.Decides.{nat_tests}
use Rattle.kern_lanes.specs.declared.width.Width.{Width}
use Rattle.kern_lanes.specs.declared.width.Width.TheVariants.{W1, W8, W16, W32, W64}
use Rattle.kern_lanes.specs.declared.trap.Trap.{Trap}
use Rattle.kern_lanes.specs.Widths.{bits_of, signed_value}
use Rattle.kern_lanes.specs.Binary.{signed_trap, unless_trapped}

-- no lane has more than 64 bits
pub value_count_le : (w : Width) → 2 ^ bits_of w ≤ 2 ^ 64
value_count_le W1 = omega arith
value_count_le W8 = omega arith
value_count_le W16 = omega arith
value_count_le W32 = omega arith
value_count_le W64 = omega arith

-- half of the values are negative
pub value_halves : (w : Width) → (2 ^ bits_of w ≡ 2 ^ (bits_of w - 1) + 2 ^ (bits_of w - 1)) × (0 < 2 ^ (bits_of w - 1))
value_halves W1 = (omega arith, omega arith)
value_halves W8 = (omega arith, omega arith)
value_halves W16 = (omega arith, omega arith)
value_halves W32 = (omega arith, omega arith)
value_halves W64 = (omega arith, omega arith)

mag-neg_ℤ : (n : ℕ) → mag (neg_ℤ (pos n)) ≤ n
mag-neg_ℤ zero = omega arith
mag-neg_ℤ (suc n) = omega arith

-- below the least negative lane the value is the number
pub signed_value-low : (w : Width) (a : ℕ) → a < 2 ^ (bits_of w - 1) → signed_value w a ≡ pos a
unfolding signed_value
signed_value-low w a low = grind (arith, nat_tests)

-- from there on it is the number less the count of values
pub signed_value-high : (w : Width) (a : ℕ) → 2 ^ (bits_of w - 1) ≤ a → signed_value w a ≡ pos a -ℤ pos (2 ^ bits_of w)
unfolding signed_value
signed_value-high w a high = grind (arith, nat_tests)

-- the quotient of a value of 64 bits fits 128 bits
pub FitsSigned-int_div : (x y : ℤ) → FitsSigned w64 x → FitsSigned w128 (int_div x y)
FitsSigned-int_div (pos a) (pos b) fits = record { sfits = omega (arith, div-le_self a b, fits.sfits) }
FitsSigned-int_div (pos a) (negsuc b) fits = record { sfits = omega (arith, mag-neg_ℤ (a / suc b), div-le_self a (suc b), fits.sfits) }
FitsSigned-int_div (negsuc a) (pos b) fits = record { sfits = omega (arith, mag-neg_ℤ (suc a / b), div-le_self (suc a) b, fits.sfits) }
FitsSigned-int_div (negsuc a) (negsuc b) fits = record { sfits = omega (arith, div-le_self (suc a) (suc b), fits.sfits) }

-- what holds of 64 bits holds of 128
pub FitsSigned-wider : (z : ℤ) → FitsSigned w64 z → FitsSigned w128 z
FitsSigned-wider z fits = record { sfits = omega (arith, fits.sfits) }

-- a value other than zero has bits other than zero
pub IsNonZero-from_ne : (z : ℤ) → FitsSigned w64 z → (z ≡ pos 0 → ⊥) → IsNonZero w128 z
IsNonZero-from_ne (pos zero) fits ne = absurd (ne refl)
IsNonZero-from_ne (pos (suc n)) fits ne = omega arith
IsNonZero-from_ne (negsuc n) fits ne = omega (arith, fits.sfits)

-- the machine's quotient and remainder of two values of 64 bits exist where the second one is not zero
pub CanDivide-from_fits : (x y : ℤ) → FitsSigned w64 x → FitsSigned w64 y → (y ≡ pos 0 → ⊥) → IsNonZero w128 y × FitsSigned w128 (int_div (cast_signed w128 (cast_unsigned w128 x)) (cast_signed w128 (cast_unsigned w128 y)))
CanDivide-from_fits x y fits_x fits_y ne =
    let wide_x = FitsSigned-wider x fits_x in
    let wide_y = FitsSigned-wider y fits_y in
    (IsNonZero-from_ne y fits_y ne, rw (to_z-of_z w128 x wide_x, to_z-of_z w128 y wide_y) (FitsSigned-int_div x y fits_x))

-- where a signed division does not trap, the divisor is not zero
pub ne_zero_from_signed_trap : (w : Width) (a b : ℕ) (u : Unit {0}) → Ok u ≡ unless_trapped (signed_trap w a b) tt → b ≡ 0 → ⊥
ne_zero_from_signed_trap w a b u ok zero_divisor = let trapped = rw zero_divisor at ok in cc

-- where a check finds no trap, neither does the operation
pub unless_trapped-none : {A : Type 0} (trap : Option Trap) (u : Unit {0}) (value : A) → Ok u ≡ unless_trapped trap tt → unless_trapped trap value ≡ Ok value
unless_trapped-none None u value ok = refl
unless_trapped-none (Some trap) u value ok = cc
