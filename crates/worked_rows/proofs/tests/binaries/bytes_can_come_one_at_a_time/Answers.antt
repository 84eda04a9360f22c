use Rattle.std.proofs.Common.{[]}
use Rattle.worked_rows.proofs.Fits.{AllFit-short}
use Rattle.worked_rows.proofs.tests.binaries.bytes_can_come_one_at_a_time.Goals as goal

pub encode-requires : goal.encode-requires
encode-requires g c = AllFit-short [] c.in_ok-raw.raw.insts c.in_ok-raw.ensures.module.right.fit
