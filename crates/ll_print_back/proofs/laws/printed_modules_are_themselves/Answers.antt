use Rattle.ll_print_back.proofs.OneModule.{are-themselves}
use Rattle.ll_print_back.proofs.laws.printed_modules_are_themselves.Goals as goal

pub returns : goal.returns
returns c = are-themselves
