use Rattle.kernel_runs.proofs.TypedForms.{renamed-typed}
use Rattle.kernel_runs.proofs.renamed_are_typed.Goals as goal

pub returns : goal.returns
returns c = renamed-typed
