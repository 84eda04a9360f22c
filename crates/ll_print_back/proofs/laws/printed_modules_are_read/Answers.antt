use Rattle.ll_print_back.proofs.ModulesBack.{read-back}
use Rattle.ll_print_back.proofs.laws.printed_modules_are_read.Goals as goal

pub returns : goal.returns
returns c = read-back
