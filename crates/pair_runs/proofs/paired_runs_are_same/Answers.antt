use Rattle.pair_runs.proofs.Images.{paired-runs}
use Rattle.pair_runs.proofs.paired_runs_are_same.Goals as goal

pub returns : goal.returns
returns c = paired-runs
