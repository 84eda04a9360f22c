-- The canonical form of a kernel with an own name is a canonical kernel.
use Rattle.std.proofs.Common.{ap}
use Rattle.std.specs.Prelude.{is_some}
use Rattle.ll_canon.proofs.NumberedAgain.{canonical-again}
use Rattle.kernel_reading.specs.Laws.{CanonicalKernelsAreCanonical}
use Rattle.kernel_reading.proofs.CanonicalForms.{canonical-kernel}

pub forms-canonical : CanonicalKernelsAreCanonical
forms-canonical source defined covered own = canonical-kernel source covered own (canonical-again source covered (ap is_some own.entry_is))
