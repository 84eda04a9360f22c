-- What the operations on two lanes give, and when they trap
use Rattle.std.specs.Prelude.{ℕ, ◌+◌, ◌-◌, ◌*◌, ◌/◌, ◌%◌, ◌^◌, ◌==◌, ◌&&◌, nat_lt, if◌then◌else◌, pos, ◌-ℤ◌, int_div, int_rem, bit_and, bit_or, bit_xor, Option, Some, None, Result, Ok, Err}
use Rattle.std.specs.Int.{int_shr}
use Rattle.kern_lanes.specs.declared.width.Width.{Width}
use Rattle.kern_lanes.specs.declared.binary.BinOp.{BinOp}
use Rattle.kern_lanes.specs.declared.binary.BinOp.TheVariants.{Add, Sub, Mul, UDiv, SDiv, URem, SRem, Shl, LShr, AShr, And, Or, Xor}
use Rattle.kern_lanes.specs.declared.trap.Trap.{Trap}
use Rattle.kern_lanes.specs.declared.trap.Trap.TheVariants.{DivZero, DivOverflow, ShiftRange}
use Rattle.kern_lanes.specs.Widths.{bits_of, signed_value, lane}

-- the result where there is no trap: a division rounds toward zero, a remainder has the dividend's sign,
-- and a shift to the right rounds down
abbrev pub value_of : BinOp → Width → ℕ → ℕ → ℕ
value_of Add w a b = (a + b) % 2 ^ bits_of w
value_of Sub w a b = lane w (pos a -ℤ pos b)
value_of Mul w a b = (a * b) % 2 ^ bits_of w
value_of UDiv w a b = a / b
value_of SDiv w a b = lane w (int_div (signed_value w a) (signed_value w b))
value_of URem w a b = a % b
value_of SRem w a b = lane w (int_rem (signed_value w a) (signed_value w b))
value_of Shl w a b = (a * 2 ^ b) % 2 ^ bits_of w
value_of LShr w a b = a / 2 ^ b
value_of AShr w a b = lane w (int_shr (signed_value w a) b)
value_of And w a b = bit_and a b
value_of Or w a b = bit_or a b
value_of Xor w a b = bit_xor a b

-- the trap of a division or remainder of unsigned values
abbrev pub zero_trap : ℕ → Option Trap
zero_trap b = if b == 0 then Some DivZero else None

-- the trap of a division or remainder of signed values: the least one by -1 does not fit
abbrev pub signed_trap : Width → ℕ → ℕ → Option Trap
signed_trap w a b =
    if b == 0 then Some DivZero
    else (if (a == 2 ^ (bits_of w - 1)) && (b == 2 ^ bits_of w - 1) then Some DivOverflow else None)

-- the trap of a shift
abbrev pub shift_trap : Width → ℕ → Option Trap
shift_trap w b = if nat_lt b (bits_of w) then None else Some ShiftRange

-- the trap that an operation ends in, if any
abbrev pub trap_of : BinOp → Width → ℕ → ℕ → Option Trap
trap_of Add w a b = None
trap_of Sub w a b = None
trap_of Mul w a b = None
trap_of UDiv w a b = zero_trap b
trap_of SDiv w a b = signed_trap w a b
trap_of URem w a b = zero_trap b
trap_of SRem w a b = signed_trap w a b
trap_of Shl w a b = shift_trap w b
trap_of LShr w a b = shift_trap w b
trap_of AShr w a b = shift_trap w b
trap_of And w a b = None
trap_of Or w a b = None
trap_of Xor w a b = None

-- a value, unless there is a trap
abbrev pub unless_trapped : {A : Type 0} → Option Trap → A → Result A Trap
unless_trapped None value = Ok value
unless_trapped (Some trap) value = Err trap

-- what an operation on two lanes answers
abbrev pub binary : BinOp → Width → ℕ → ℕ → Result ℕ Trap
binary op w a b = unless_trapped (trap_of op w a b) (value_of op w a b)
