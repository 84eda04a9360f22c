-- What an atomic read, change and write leaves in memory
use Rattle.std.specs.Prelude.{ℕ, ◌+◌, ◌%◌, ◌^◌, min, max, pos, ◌-ℤ◌, int_lt, bit_and, bit_or, bit_xor, if◌then◌else◌}
use Rattle.kern_lanes.specs.declared.width.Width.{Width}
use Rattle.kern_lanes.specs.declared.atomic.RmwOp.{RmwOp}
use Rattle.kern_lanes.specs.declared.atomic.RmwOp.TheVariants.{Xchg, Add, Sub, And, Or, Xor, Max, Min, UMax, UMin}
use Rattle.kern_lanes.specs.Widths.{bits_of, signed_value, lane}

-- the number that replaces the old one
abbrev pub replacement : RmwOp → Width → ℕ → ℕ → ℕ
replacement Xchg w old value = value
replacement Add w old value = (old + value) % 2 ^ bits_of w
replacement Sub w old value = lane w (pos old -ℤ pos value)
replacement And w old value = bit_and old value
replacement Or w old value = bit_or old value
replacement Xor w old value = bit_xor old value
replacement Max w old value = if int_lt (signed_value w old) (signed_value w value) then value else old
replacement Min w old value = if int_lt (signed_value w value) (signed_value w old) then value else old
replacement UMax w old value = max old value
replacement UMin w old value = min old value
