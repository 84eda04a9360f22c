-- Widths of lanes. A lane of w bits is a whole number below 2 ^ w, and it also stands for a signed value.
use Rattle.std.specs.Prelude.{ℕ, ◌-◌, ◌^◌, ◌<◌, ℤ, pos, ◌-ℤ◌, unsigned_abs, nat_lt, if◌then◌else◌}
use Rattle.std.specs.Int.{int_rem_euclid}
use Rattle.kern_lanes.specs.declared.width.Width.{Width}
use Rattle.kern_lanes.specs.declared.width.Width.TheVariants.{W1, W8, W16, W32, W64}

-- how many bits a lane has
abbrev pub bits_of : Width → ℕ
bits_of W1 = 1
bits_of W8 = 8
bits_of W16 = 16
bits_of W32 = 32
bits_of W64 = 64

-- a is a lane of this width
abbrev pub IsLane : Width → ℕ → Type 0
IsLane w a = a < 2 ^ bits_of w

-- the signed value of a lane, from -2 ^ (w - 1) to 2 ^ (w - 1) - 1
unfoldable pub signed_value : Width → ℕ → ℤ
signed_value w a =
    if nat_lt a (2 ^ (bits_of w - 1)) then pos a else pos a -ℤ pos (2 ^ bits_of w)

-- the lane that is a whole number modulo 2 ^ w
unfoldable pub lane : Width → ℤ → ℕ
lane w z = unsigned_abs (int_rem_euclid z (pos (2 ^ bits_of w)))
