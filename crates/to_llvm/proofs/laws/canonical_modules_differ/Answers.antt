use Rattle.to_llvm.proofs.LawLemmas.{modules-differ}
use Rattle.to_llvm.proofs.laws.canonical_modules_differ.Goals as goal

pub returns : goal.returns
returns c = modules-differ
