use Rattle.to_llvm.proofs.LawLemmas.{one-kernel}
use Rattle.to_llvm.proofs.laws.one_kernel.Goals as goal

pub returns : goal.returns
returns c = one-kernel
