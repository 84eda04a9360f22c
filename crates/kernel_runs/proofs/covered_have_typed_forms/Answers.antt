use Rattle.kernel_runs.proofs.CoveredForms.{covered-forms}
use Rattle.kernel_runs.proofs.covered_have_typed_forms.Goals as goal

pub returns : goal.returns
returns c = covered-forms
