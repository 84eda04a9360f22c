use Rattle.kernel_runs.proofs.Runs.{renamed-runs}
use Rattle.kernel_runs.proofs.renamed_runs_are_same.Goals as goal

pub returns : goal.returns
returns c = renamed-runs
