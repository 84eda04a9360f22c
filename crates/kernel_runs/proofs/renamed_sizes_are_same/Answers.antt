use Rattle.kernel_runs.proofs.Joins.{renamed-size}
use Rattle.kernel_runs.proofs.renamed_sizes_are_same.Goals as goal

pub returns : goal.returns
returns c = renamed-size
