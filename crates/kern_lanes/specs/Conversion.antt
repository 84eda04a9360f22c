-- What the conversions between widths give
use Rattle.std.specs.Prelude.{ℕ, ◌%◌, ◌^◌}
use Rattle.kern_lanes.specs.declared.width.Width.{Width}
use Rattle.kern_lanes.specs.declared.conversion.Conv.{Conv}
use Rattle.kern_lanes.specs.declared.conversion.Conv.TheVariants.{Trunc, Zext, Sext}
use Rattle.kern_lanes.specs.Widths.{bits_of, signed_value, lane}

-- the number, or for a sign extension the signed value, modulo 2 to the power of the new width
abbrev pub conversion : Conv → Width → Width → ℕ → ℕ
conversion Trunc from to a = a % 2 ^ bits_of to
conversion Zext from to a = a % 2 ^ bits_of to
conversion Sext from to a = lane to (signed_value from a)
