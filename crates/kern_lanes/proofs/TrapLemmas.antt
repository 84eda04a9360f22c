-- Each trap comes exactly where its cause stands
use Rattle.std.proofs.Common.{◌≡◌, ◌↔◌, ℕ, ◌-◌, ◌^◌, ◌≤◌, true, false, Option, Some, None, Err, inl, inr, refl, arith, pos, negsuc, neg_ℤ, IsTrue}
use Rattle.std.proofs.lemmas.Bool.Decides.{nat_tests}
use Rattle.std.proofs.lemmas.Bool.{cases_lt, false≢true}
use Rattle.std.proofs.lemmas.Int.{ints}
use Rattle.kern_lanes.proofs.SignedLemmas.{value_halves, signed_value-low, signed_value-high}
use Rattle.kern_lanes.specs.declared.width.Width.{Width}
use Rattle.kern_lanes.specs.declared.binary.BinOp.{BinOp}
use Rattle.kern_lanes.specs.declared.binary.BinOp.TheVariants.{Add, Sub, Mul, UDiv, SDiv, URem, SRem, Shl, LShr, AShr, And, Or, Xor}
use Rattle.kern_lanes.specs.declared.trap.Trap.{Trap}
use Rattle.kern_lanes.specs.declared.trap.Trap.TheVariants.{DivZero, DivOverflow, ShiftRange}
use Rattle.kern_lanes.specs.Widths.{bits_of, IsLane, signed_value}
use Rattle.kern_lanes.specs.Binary.{binary, value_of, trap_of, unless_trapped, zero_trap, signed_trap, shift_trap}
use Rattle.kern_lanes.specs.Laws.{is_division, is_signed_division, is_shift, TrapsExactly}

-- an operation traps as its test says
trapped : {A : Type 0} (found : Option Trap) (value : A) (trap : Trap) → (unless_trapped found value ≡ Err trap) ↔ (found ≡ Some trap)
trapped None value trap = (λ e. cc, λ e. cc)
trapped (Some t) value trap = (λ e. cc, λ e. cc)

zero_trap-zero : (b : ℕ) → (zero_trap b ≡ Some DivZero) ↔ (b ≡ 0)
zero_trap-zero b = (λ e. grind (arith, nat_tests), λ e. grind (arith, nat_tests))

signed_trap-zero : (w : Width) (a b : ℕ) → (signed_trap w a b ≡ Some DivZero) ↔ (b ≡ 0)
signed_trap-zero w a b = (λ e. grind (arith, nat_tests), λ e. grind (arith, nat_tests))

signed_trap-overflow : (w : Width) (a b : ℕ) → (signed_trap w a b ≡ Some DivOverflow) ↔ ((a ≡ 2 ^ (bits_of w - 1)) × (b ≡ 2 ^ bits_of w - 1))
signed_trap-overflow w a b =
    let halves = value_halves w in
    (λ e. (grind (arith, nat_tests), grind (arith, nat_tests)), λ e. grind (arith, nat_tests))

shift_trap-range : (w : Width) (b : ℕ) → (shift_trap w b ≡ Some ShiftRange) ↔ (bits_of w ≤ b)
shift_trap-range w b = (λ e. grind (arith, nat_tests), λ e. grind (arith, nat_tests))

-- the lane of the least signed value
least_lane : (w : Width) (a : ℕ) → IsLane w a → (signed_value w a ≡ neg_ℤ (pos (2 ^ (bits_of w - 1)))) ↔ (a ≡ 2 ^ (bits_of w - 1))
least_lane w a lane =
    let halves = value_halves w in
    elim (cases_lt a (2 ^ (bits_of w - 1))) [
      | inl low ↦ let e = signed_value-low w a low in (λ h. absurd (omega (arith, ints)), λ h. absurd (omega arith))
      | inr high ↦ let e = signed_value-high w a high in (λ h. omega (arith, ints), λ h. omega (arith, ints))
    ]

-- the lane of -1
minus_one_lane : (w : Width) (b : ℕ) → IsLane w b → (signed_value w b ≡ negsuc 0) ↔ (b ≡ 2 ^ bits_of w - 1)
minus_one_lane w b lane =
    let halves = value_halves w in
    elim (cases_lt b (2 ^ (bits_of w - 1))) [
      | inl low ↦ let e = signed_value-low w b low in (λ h. absurd (omega (arith, ints)), λ h. absurd (omega arith))
      | inr high ↦ let e = signed_value-high w b high in (λ h. omega (arith, ints), λ h. omega (arith, ints))
    ]

zero_trap-overflow : (b : ℕ) → zero_trap b ≡ Some DivOverflow → ⊥
zero_trap-overflow b e = grind (arith, nat_tests)

zero_trap-range : (b : ℕ) → zero_trap b ≡ Some ShiftRange → ⊥
zero_trap-range b e = grind (arith, nat_tests)

signed_trap-range : (w : Width) (a b : ℕ) → signed_trap w a b ≡ Some ShiftRange → ⊥
signed_trap-range w a b e = grind (arith, nat_tests)

shift_trap-zero : (w : Width) (b : ℕ) → shift_trap w b ≡ Some DivZero → ⊥
shift_trap-zero w b e = grind (arith, nat_tests)

shift_trap-overflow : (w : Width) (b : ℕ) → shift_trap w b ≡ Some DivOverflow → ⊥
shift_trap-overflow w b e = grind (arith, nat_tests)

caused : (found : Option Trap) (value : ℕ) (trap : Trap) {P : Type 0} → (found ≡ Some trap) ↔ P → (unless_trapped found value ≡ Err trap) ↔ (IsTrue true × P)
caused found value trap cause =
    (λ e. (refl, cause.0 ((trapped found value trap).0 e)), λ h. (trapped found value trap).1 (cause.1 h.1))

never : (found : Option Trap) (value : ℕ) (trap : Trap) (P : Type 0) → (found ≡ Some trap → ⊥) → (unless_trapped found value ≡ Err trap) ↔ (IsTrue false × P)
never found value trap P other =
    (λ e. absurd (other ((trapped found value trap).0 e)), λ h. absurd (false≢true h.0))

no_trap : (trap : Trap) → None ≡ Some trap → ⊥
no_trap trap e = cc

div_zero : (op : BinOp) (w : Width) (a b : ℕ) → (binary op w a b ≡ Err DivZero) ↔ (IsTrue (is_division op) × (b ≡ 0))
div_zero Add w a b = never None (value_of Add w a b) DivZero ((b ≡ 0)) (no_trap DivZero)
div_zero Sub w a b = never None (value_of Sub w a b) DivZero ((b ≡ 0)) (no_trap DivZero)
div_zero Mul w a b = never None (value_of Mul w a b) DivZero ((b ≡ 0)) (no_trap DivZero)
div_zero UDiv w a b = caused (trap_of UDiv w a b) (value_of UDiv w a b) DivZero (zero_trap-zero b)
div_zero SDiv w a b = caused (trap_of SDiv w a b) (value_of SDiv w a b) DivZero (signed_trap-zero w a b)
div_zero URem w a b = caused (trap_of URem w a b) (value_of URem w a b) DivZero (zero_trap-zero b)
div_zero SRem w a b = caused (trap_of SRem w a b) (value_of SRem w a b) DivZero (signed_trap-zero w a b)
div_zero Shl w a b = never (trap_of Shl w a b) (value_of Shl w a b) DivZero ((b ≡ 0)) (shift_trap-zero w b)
div_zero LShr w a b = never (trap_of LShr w a b) (value_of LShr w a b) DivZero ((b ≡ 0)) (shift_trap-zero w b)
div_zero AShr w a b = never (trap_of AShr w a b) (value_of AShr w a b) DivZero ((b ≡ 0)) (shift_trap-zero w b)
div_zero And w a b = never None (value_of And w a b) DivZero ((b ≡ 0)) (no_trap DivZero)
div_zero Or w a b = never None (value_of Or w a b) DivZero ((b ≡ 0)) (no_trap DivZero)
div_zero Xor w a b = never None (value_of Xor w a b) DivZero ((b ≡ 0)) (no_trap DivZero)

shift_range : (op : BinOp) (w : Width) (a b : ℕ) → (binary op w a b ≡ Err ShiftRange) ↔ (IsTrue (is_shift op) × (bits_of w ≤ b))
shift_range Add w a b = never None (value_of Add w a b) ShiftRange ((bits_of w ≤ b)) (no_trap ShiftRange)
shift_range Sub w a b = never None (value_of Sub w a b) ShiftRange ((bits_of w ≤ b)) (no_trap ShiftRange)
shift_range Mul w a b = never None (value_of Mul w a b) ShiftRange ((bits_of w ≤ b)) (no_trap ShiftRange)
shift_range UDiv w a b = never (trap_of UDiv w a b) (value_of UDiv w a b) ShiftRange ((bits_of w ≤ b)) (zero_trap-range b)
shift_range SDiv w a b = never (trap_of SDiv w a b) (value_of SDiv w a b) ShiftRange ((bits_of w ≤ b)) (signed_trap-range w a b)
shift_range URem w a b = never (trap_of URem w a b) (value_of URem w a b) ShiftRange ((bits_of w ≤ b)) (zero_trap-range b)
shift_range SRem w a b = never (trap_of SRem w a b) (value_of SRem w a b) ShiftRange ((bits_of w ≤ b)) (signed_trap-range w a b)
shift_range Shl w a b = caused (trap_of Shl w a b) (value_of Shl w a b) ShiftRange (shift_trap-range w b)
shift_range LShr w a b = caused (trap_of LShr w a b) (value_of LShr w a b) ShiftRange (shift_trap-range w b)
shift_range AShr w a b = caused (trap_of AShr w a b) (value_of AShr w a b) ShiftRange (shift_trap-range w b)
shift_range And w a b = never None (value_of And w a b) ShiftRange ((bits_of w ≤ b)) (no_trap ShiftRange)
shift_range Or w a b = never None (value_of Or w a b) ShiftRange ((bits_of w ≤ b)) (no_trap ShiftRange)
shift_range Xor w a b = never None (value_of Xor w a b) ShiftRange ((bits_of w ≤ b)) (no_trap ShiftRange)

overflow_cause : (w : Width) (a b : ℕ) → IsLane w a → IsLane w b → (signed_trap w a b ≡ Some DivOverflow) ↔ ((signed_value w a ≡ neg_ℤ (pos (2 ^ (bits_of w - 1)))) × (signed_value w b ≡ negsuc 0))
overflow_cause w a b la lb =
    let least = least_lane w a la in
    let minus_one = minus_one_lane w b lb in
    let trap = signed_trap-overflow w a b in
    (λ e. (least.1 (trap.0 e).0, minus_one.1 (trap.0 e).1), λ h. trap.1 (least.0 h.0, minus_one.0 h.1))

div_overflow : (op : BinOp) (w : Width) (a b : ℕ) → IsLane w a → IsLane w b → (binary op w a b ≡ Err DivOverflow) ↔ (IsTrue (is_signed_division op) × ((signed_value w a ≡ neg_ℤ (pos (2 ^ (bits_of w - 1)))) × (signed_value w b ≡ negsuc 0)))
div_overflow Add w a b la lb = never None (value_of Add w a b) DivOverflow (((signed_value w a ≡ neg_ℤ (pos (2 ^ (bits_of w - 1)))) × (signed_value w b ≡ negsuc 0))) (no_trap DivOverflow)
div_overflow Sub w a b la lb = never None (value_of Sub w a b) DivOverflow (((signed_value w a ≡ neg_ℤ (pos (2 ^ (bits_of w - 1)))) × (signed_value w b ≡ negsuc 0))) (no_trap DivOverflow)
div_overflow Mul w a b la lb = never None (value_of Mul w a b) DivOverflow (((signed_value w a ≡ neg_ℤ (pos (2 ^ (bits_of w - 1)))) × (signed_value w b ≡ negsuc 0))) (no_trap DivOverflow)
div_overflow UDiv w a b la lb = never (trap_of UDiv w a b) (value_of UDiv w a b) DivOverflow (((signed_value w a ≡ neg_ℤ (pos (2 ^ (bits_of w - 1)))) × (signed_value w b ≡ negsuc 0))) (zero_trap-overflow b)
div_overflow SDiv w a b la lb = caused (trap_of SDiv w a b) (value_of SDiv w a b) DivOverflow (overflow_cause w a b la lb)
div_overflow URem w a b la lb = never (trap_of URem w a b) (value_of URem w a b) DivOverflow (((signed_value w a ≡ neg_ℤ (pos (2 ^ (bits_of w - 1)))) × (signed_value w b ≡ negsuc 0))) (zero_trap-overflow b)
div_overflow SRem w a b la lb = caused (trap_of SRem w a b) (value_of SRem w a b) DivOverflow (overflow_cause w a b la lb)
div_overflow Shl w a b la lb = never (trap_of Shl w a b) (value_of Shl w a b) DivOverflow (((signed_value w a ≡ neg_ℤ (pos (2 ^ (bits_of w - 1)))) × (signed_value w b ≡ negsuc 0))) (shift_trap-overflow w b)
div_overflow LShr w a b la lb = never (trap_of LShr w a b) (value_of LShr w a b) DivOverflow (((signed_value w a ≡ neg_ℤ (pos (2 ^ (bits_of w - 1)))) × (signed_value w b ≡ negsuc 0))) (shift_trap-overflow w b)
div_overflow AShr w a b la lb = never (trap_of AShr w a b) (value_of AShr w a b) DivOverflow (((signed_value w a ≡ neg_ℤ (pos (2 ^ (bits_of w - 1)))) × (signed_value w b ≡ negsuc 0))) (shift_trap-overflow w b)
div_overflow And w a b la lb = never None (value_of And w a b) DivOverflow (((signed_value w a ≡ neg_ℤ (pos (2 ^ (bits_of w - 1)))) × (signed_value w b ≡ negsuc 0))) (no_trap DivOverflow)
div_overflow Or w a b la lb = never None (value_of Or w a b) DivOverflow (((signed_value w a ≡ neg_ℤ (pos (2 ^ (bits_of w - 1)))) × (signed_value w b ≡ negsuc 0))) (no_trap DivOverflow)
div_overflow Xor w a b la lb = never None (value_of Xor w a b) DivOverflow (((signed_value w a ≡ neg_ℤ (pos (2 ^ (bits_of w - 1)))) × (signed_value w b ≡ negsuc 0))) (no_trap DivOverflow)

-- the three together
pub traps_exactly : (op : BinOp) (w : Width) (a b : ℕ) → IsLane w a → IsLane w b → TrapsExactly op w a b
traps_exactly op w a b la lb = record {
  div_zero = div_zero op w a b;
  div_overflow = div_overflow op w a b la lb;
  shift_range = shift_range op w a b;
}
