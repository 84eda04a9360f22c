use Rattle.kernel_runs.proofs.Forms.{canonical-runs}
use Rattle.kernel_runs.proofs.canonical_runs_are_same.Goals as goal

pub returns : goal.returns
returns c = canonical-runs
