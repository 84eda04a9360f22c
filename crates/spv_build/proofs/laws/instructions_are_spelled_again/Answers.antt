use Rattle.spv_build.proofs.SpelledAgain.{spelled-again}
use Rattle.spv_build.proofs.laws.instructions_are_spelled_again.Goals as goal

pub returns : goal.returns
returns c = spelled-again
