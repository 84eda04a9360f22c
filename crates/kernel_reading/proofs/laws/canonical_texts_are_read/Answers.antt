use Rattle.std.proofs.Common.{ap}
use Rattle.std.specs.Prelude.{is_some}
use Rattle.ll_canon.proofs.NumberedAgain.{canonical-again}
use Rattle.kernel_reading.proofs.OwnNames.{own-name}
use Rattle.kernel_reading.proofs.ReadAgain.{read-again}
use Rattle.kernel_reading.proofs.laws.canonical_texts_are_read.Goals as goal

pub returns : goal.returns
returns c =
    λ text tokens source are reads defined covered few.
    read-again text tokens source (canonical-again source covered (ap is_some (own-name text tokens source are reads).entry_is)) are reads covered few
