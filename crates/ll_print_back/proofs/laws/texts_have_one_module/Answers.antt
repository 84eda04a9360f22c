use Rattle.ll_print_back.proofs.OneModule.{one-module}
use Rattle.ll_print_back.proofs.laws.texts_have_one_module.Goals as goal

pub returns : goal.returns
returns c = one-module
