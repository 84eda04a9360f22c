-- Laws of the operations on lanes
use Rattle.std.specs.Prelude.{◌≡◌, ◌↔◌, ℕ, Bool, true, false, IsTrue, ◌≤◌, ◌-◌, ◌^◌, List, length, All, IfOk, Err, negsuc, neg_ℤ, pos}
use Rattle.kern_lanes.specs.declared.width.Width.{Width}
use Rattle.kern_lanes.specs.declared.binary.BinOp.{BinOp}
use Rattle.kern_lanes.specs.declared.binary.BinOp.TheVariants.{Add, Sub, Mul, UDiv, SDiv, URem, SRem, Shl, LShr, AShr, And, Or, Xor}
use Rattle.kern_lanes.specs.declared.trap.Trap.TheVariants.{DivZero, DivOverflow, ShiftRange}
use Rattle.kern_lanes.specs.declared.conversion.Conv.{Conv}
use Rattle.kern_lanes.specs.declared.atomic.RmwOp.{RmwOp}
use Rattle.kern_lanes.specs.Widths.{bits_of, IsLane, signed_value}
use Rattle.kern_lanes.specs.Binary.{binary}
use Rattle.kern_lanes.specs.Conversion.{conversion}
use Rattle.kern_lanes.specs.Atomic.{replacement}
use Rattle.kern_lanes.specs.Regrouping.{part_count, parts_of, joined}

-- whether an operation divides
abbrev pub is_division : BinOp → Bool
is_division Add = false
is_division Sub = false
is_division Mul = false
is_division UDiv = true
is_division SDiv = true
is_division URem = true
is_division SRem = true
is_division Shl = false
is_division LShr = false
is_division AShr = false
is_division And = false
is_division Or = false
is_division Xor = false

-- whether it divides signed values
abbrev pub is_signed_division : BinOp → Bool
is_signed_division Add = false
is_signed_division Sub = false
is_signed_division Mul = false
is_signed_division UDiv = false
is_signed_division SDiv = true
is_signed_division URem = false
is_signed_division SRem = true
is_signed_division Shl = false
is_signed_division LShr = false
is_signed_division AShr = false
is_signed_division And = false
is_signed_division Or = false
is_signed_division Xor = false

-- whether it shifts
abbrev pub is_shift : BinOp → Bool
is_shift Add = false
is_shift Sub = false
is_shift Mul = false
is_shift UDiv = false
is_shift SDiv = false
is_shift URem = false
is_shift SRem = false
is_shift Shl = true
is_shift LShr = true
is_shift AShr = true
is_shift And = false
is_shift Or = false
is_shift Xor = false

-- each trap comes exactly where its cause stands
pub record TrapsExactly (op : BinOp) (w : Width) (a b : ℕ) : Type 0 where
  pub div_zero : (binary op w a b ≡ Err DivZero) ↔ (IsTrue (is_division op) × (b ≡ 0))
  pub div_overflow : (binary op w a b ≡ Err DivOverflow) ↔ (IsTrue (is_signed_division op)
      × ((signed_value w a ≡ neg_ℤ (pos (2 ^ (bits_of w - 1)))) × (signed_value w b ≡ negsuc 0)))
  pub shift_range : (binary op w a b ≡ Err ShiftRange) ↔ (IsTrue (is_shift op) × (bits_of w ≤ b))

-- what the operations give are lanes of their width
pub record GivesLanes : Type 0 where
  pub of_binary : (op : BinOp) (w : Width) (a b : ℕ) → IsLane w a → IsLane w b → IfOk (binary op w a b) (IsLane w)
  pub of_conversion : (kind : Conv) (from to : Width) (a : ℕ) → IsLane to (conversion kind from to a)
  pub of_replacement : (op : RmwOp) (w : Width) (old value : ℕ) → IsLane w old → IsLane w value → IsLane w (replacement op w old value)
  pub of_split : (from to : Width) (a : ℕ) → All (IsLane to) (parts_of from to a)
  pub of_join : (from to : Width) (parts : List ℕ) → All (IsLane to) parts → bits_of to ≤ bits_of from → length parts ≡ part_count from to → IsLane from (joined to parts)

-- a lane is what its parts make
abbrev pub JoinUndoesSplit : Type 0
JoinUndoesSplit = (from to : Width) (a : ℕ) → IsLane from a → bits_of to ≤ bits_of from → joined to (parts_of from to a) ≡ a

-- parts are those of the lane that they make
abbrev pub SplitUndoesJoin : Type 0
SplitUndoesJoin =
    (from to : Width) (parts : List ℕ) → All (IsLane to) parts → bits_of to ≤ bits_of from → length parts ≡ part_count from to → parts_of from to (joined to parts) ≡ parts
