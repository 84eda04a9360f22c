-- What the operations give are lanes of their width
use Rattle.std.proofs.Common.{◌≡◌, ℕ, zero, suc, ◌+◌, ◌*◌, ◌/◌, ◌%◌, ◌^◌, ◌<◌, ◌≤◌, ℤ, pos, negsuc, ◌-ℤ◌, Bool, true, false, cond, Option, Some, None, List, length, All, IfOk, ap, ◌∙◌, arith, pow_pos}
use Rattle.std.specs.Prelude.{int_div, int_rem, int_lt}
use Rattle.std.specs.Int.{int_shr}
use Rattle.std.proofs.Math.Nat.{div-le_self, mod-le}
use Rattle.std.proofs.lemmas.Nat.{mod_below, shr_le, and_le_l, or_lt, xor_lt}
use Rattle.std.proofs.lemmas.List.Elements.{All-cons, All-nil}
use Rattle.kern_lanes.specs.declared.width.Width.{Width}
use Rattle.kern_lanes.specs.declared.binary.BinOp.{BinOp}
use Rattle.kern_lanes.specs.declared.binary.BinOp.TheVariants as op
use Rattle.kern_lanes.specs.declared.conversion.Conv.{Conv}
use Rattle.kern_lanes.specs.declared.conversion.Conv.TheVariants.{Trunc, Zext, Sext}
use Rattle.kern_lanes.specs.declared.atomic.RmwOp.{RmwOp}
use Rattle.kern_lanes.specs.declared.atomic.RmwOp.TheVariants as rmw
use Rattle.kern_lanes.specs.declared.trap.Trap.{Trap}
use Rattle.kern_lanes.specs.Widths.{bits_of, IsLane, signed_value, lane}
use Rattle.kern_lanes.specs.Binary.{value_of, trap_of, unless_trapped}
use Rattle.kern_lanes.specs.Conversion.{conversion}
use Rattle.kern_lanes.specs.Atomic.{replacement}
use Rattle.kern_lanes.specs.Regrouping.{digits, part_count, joined}
use Rattle.kern_lanes.specs.Laws.{GivesLanes}
use Rattle.kern_lanes.proofs.DigitLemmas.{from_digits-lt, part_bits}

-- a number modulo 2 ^ w is a lane
low_bits-lt : (w : Width) (n : ℕ) → n % 2 ^ bits_of w < 2 ^ bits_of w
low_bits-lt w n = mod_below n (2 ^ bits_of w) (pow_pos (bits_of w))

-- so is a signed number modulo 2 ^ w
lane-lt : (w : Width) (z : ℤ) → lane w z < 2 ^ bits_of w
unfolding lane
lane-lt w (pos n) = low_bits-lt w n
lane-lt w (negsuc n) = omega (arith, pow_pos (bits_of w))

choice-lt : (test : Bool) (a b m : ℕ) → a < m → b < m → cond test a b < m
choice-lt true a b m la lb = la
choice-lt false a b m la lb = lb

value_of-lt : (op : BinOp) (w : Width) (a b : ℕ) → a < 2 ^ bits_of w → b < 2 ^ bits_of w → value_of op w a b < 2 ^ bits_of w
value_of-lt op.Add w a b la lb = low_bits-lt w (a + b)
value_of-lt op.Sub w a b la lb = lane-lt w (pos a -ℤ pos b)
value_of-lt op.Mul w a b la lb = low_bits-lt w (a * b)
value_of-lt op.UDiv w a b la lb = omega (arith, div-le_self a b)
value_of-lt op.SDiv w a b la lb = lane-lt w (int_div (signed_value w a) (signed_value w b))
value_of-lt op.URem w a b la lb = omega (arith, mod-le a b)
value_of-lt op.SRem w a b la lb = lane-lt w (int_rem (signed_value w a) (signed_value w b))
value_of-lt op.Shl w a b la lb = low_bits-lt w (a * 2 ^ b)
value_of-lt op.LShr w a b la lb = omega (arith, shr_le a b)
value_of-lt op.AShr w a b la lb = lane-lt w (int_shr (signed_value w a) b)
value_of-lt op.And w a b la lb = omega (arith, and_le_l a b)
value_of-lt op.Or w a b la lb = or_lt (bits_of w) a b la lb
value_of-lt op.Xor w a b la lb = xor_lt (bits_of w) a b la lb

unless_trapped-IfOk : (found : Option Trap) (value m : ℕ) → value < m → IfOk (unless_trapped found value) (λ v. v < m)
unless_trapped-IfOk None value m below = below
unless_trapped-IfOk (Some trap) value m below = tt

replacement-lt : (op : RmwOp) (w : Width) (a b : ℕ) → a < 2 ^ bits_of w → b < 2 ^ bits_of w → replacement op w a b < 2 ^ bits_of w
replacement-lt rmw.Xchg w a b la lb = lb
replacement-lt rmw.Add w a b la lb = low_bits-lt w (a + b)
replacement-lt rmw.Sub w a b la lb = lane-lt w (pos a -ℤ pos b)
replacement-lt rmw.And w a b la lb = omega (arith, and_le_l a b)
replacement-lt rmw.Or w a b la lb = or_lt (bits_of w) a b la lb
replacement-lt rmw.Xor w a b la lb = xor_lt (bits_of w) a b la lb
replacement-lt rmw.Max w a b la lb = choice-lt (int_lt (signed_value w a) (signed_value w b)) b a (2 ^ bits_of w) lb la
replacement-lt rmw.Min w a b la lb = choice-lt (int_lt (signed_value w b) (signed_value w a)) b a (2 ^ bits_of w) lb la
replacement-lt rmw.UMax w a b la lb = omega arith
replacement-lt rmw.UMin w a b la lb = omega arith

conversion-lt : (kind : Conv) (from to : Width) (a : ℕ) → conversion kind from to a < 2 ^ bits_of to
conversion-lt Trunc from to a = low_bits-lt to a
conversion-lt Zext from to a = low_bits-lt to a
conversion-lt Sext from to a = lane-lt to (signed_value from a)

digits-lt : (bits count a : ℕ) → All (λ p. p < 2 ^ bits) (digits bits count a)
unfolding digits
digits-lt bits zero a = All-nil (λ p. p < 2 ^ bits)
digits-lt bits (suc count) a =
    All-cons (λ p. p < 2 ^ bits) (a % 2 ^ bits) (digits bits count (a / 2 ^ bits)) (mod_below a (2 ^ bits) (pow_pos bits)) (digits-lt bits count (a / 2 ^ bits))

joined-IsLane : (from to : Width) (parts : List ℕ) → All (IsLane to) parts → bits_of to ≤ bits_of from → length parts ≡ part_count from to → IsLane from (joined to parts)
joined-IsLane from to parts lanes narrower count =
    let below = from_digits-lt (bits_of to) parts lanes in
    let same = ap (λ n. 2 ^ n) (ap (λ n. bits_of to * n) count ∙ part_bits from to narrower) in
    omega arith

-- the laws together
pub gives_lanes : GivesLanes
gives_lanes = record {
  of_binary = λ op w a b la lb. unless_trapped-IfOk (trap_of op w a b) (value_of op w a b) (2 ^ bits_of w) (value_of-lt op w a b la lb);
  of_conversion = conversion-lt;
  of_replacement = replacement-lt;
  of_split = λ from to a. digits-lt (bits_of to) (part_count from to) a;
  of_join = joined-IsLane;
}
