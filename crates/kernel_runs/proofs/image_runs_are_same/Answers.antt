use Rattle.kernel_runs.proofs.Runs.{image-runs}
use Rattle.kernel_runs.proofs.image_runs_are_same.Goals as goal

pub returns : goal.returns
returns c = image-runs
