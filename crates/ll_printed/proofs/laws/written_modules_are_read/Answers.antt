use Rattle.ll_printed.proofs.ModulesAgain.{again}
use Rattle.ll_printed.proofs.laws.written_modules_are_read.Goals as goal

pub returns : goal.returns
returns c = again
