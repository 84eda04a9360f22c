-- One lane as narrower ones, and back
use Rattle.std.specs.Prelude.{ℕ, zero, suc, ◌+◌, ◌*◌, ◌/◌, ◌%◌, ◌^◌, List, [], ◌∷◌}
use Rattle.kern_lanes.specs.declared.width.Width.{Width}
use Rattle.kern_lanes.specs.Widths.{bits_of}

-- how many parts of one width a lane of another has
abbrev pub part_count : Width → Width → ℕ
part_count from to = bits_of from / bits_of to

-- the digits of a number in the base 2 ^ bits, so many of them, the lowest first
unfoldable pub digits : ℕ → ℕ → ℕ → List ℕ
digits bits zero a = []
digits bits (suc count) a = (a % 2 ^ bits) ∷ digits bits count (a / 2 ^ bits)

-- the number with these digits
unfoldable pub from_digits : ℕ → List ℕ → ℕ
from_digits bits [] = 0
from_digits bits (digit ∷ rest) = digit + from_digits bits rest * 2 ^ bits

-- the parts of a lane, the lowest first
abbrev pub parts_of : Width → Width → ℕ → List ℕ
parts_of from to a = digits (bits_of to) (part_count from to) a

-- the lane that has these parts
abbrev pub joined : Width → List ℕ → ℕ
joined to parts = from_digits (bits_of to) parts
