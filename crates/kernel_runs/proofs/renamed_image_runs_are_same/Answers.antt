use Rattle.kernel_runs.proofs.Runs.{renamed-image-runs}
use Rattle.kernel_runs.proofs.renamed_image_runs_are_same.Goals as goal

pub returns : goal.returns
returns c = renamed-image-runs
