use Rattle.std.proofs.Common.{arith}
use Rattle.std.proofs.lemmas.Int.{ints, to_z-of_z}
use Rattle.kern_lanes.specs.Widths.{lane}
use Rattle.kern_lanes.proofs.width.Width.lane.Goals as goal

pub returns : goal.returns
unfolding lane
returns c = grind (arith, ints, to_z-of_z)
