use Rattle.std.proofs.Common.{◌*◌, ◌^◌, ◌<◌}
use Rattle.kern_lanes.specs.Widths.{bits_of}
use Rattle.kern_lanes.specs.Regrouping.{part_count}
use Rattle.kern_lanes.proofs.DigitLemmas.{from_digits-digits, part_bits}
use Rattle.kern_lanes.proofs.laws.join_undoes_split.Goals as goal

pub returns : goal.returns
returns c =
    λ from to a lane narrower. let below : a < 2 ^ (bits_of to * part_count from to) = rw (part_bits from to narrower) lane in from_digits-digits (bits_of to) (part_count from to) a below
