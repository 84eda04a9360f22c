use Rattle.to_llvm.proofs.LawLemmas.{binaries-are}
use Rattle.to_llvm.proofs.laws.binaries_are_modules.Goals as goal

pub returns : goal.returns
returns c = binaries-are
