use Rattle.kernel_translation.proofs.Binaries.{partner-short}
use Rattle.kernel_translation.proofs.binary.binary.Goals as goal

pub encode-requires : goal.encode-requires
encode-requires c = partner-short c.args.kernel.now c.in_ok-raw.raw c.requires.limits c.in_ok-raw.ensures
