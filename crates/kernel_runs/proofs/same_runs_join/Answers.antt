use Rattle.std.proofs.Common.{refl}
use Rattle.kernel_runs.proofs.Joins.{same-then}
use Rattle.kernel_runs.proofs.same_runs_join.Goals as goal

pub returns : goal.returns
returns c = λ size a b other first second. same-then size size a b other refl first second
