use Rattle.kernel_reading.proofs.FormsCanonical.{forms-canonical}
use Rattle.kernel_reading.proofs.laws.canonical_kernels_are_canonical.Goals as goal

pub returns : goal.returns
returns c = forms-canonical
