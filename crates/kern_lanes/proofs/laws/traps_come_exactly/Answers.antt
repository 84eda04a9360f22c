use Rattle.kern_lanes.proofs.TrapLemmas.{traps_exactly}
use Rattle.kern_lanes.proofs.laws.traps_come_exactly.Goals as goal

pub returns : goal.returns
returns c = traps_exactly
