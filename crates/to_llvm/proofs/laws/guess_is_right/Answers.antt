use Rattle.to_llvm.proofs.LawLemmas.{guess-right}
use Rattle.to_llvm.proofs.laws.guess_is_right.Goals as goal

pub returns : goal.returns
returns c = guess-right
