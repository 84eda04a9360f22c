use Rattle.ll_one_module.proofs.OneModule.{modules-one}
use Rattle.ll_one_module.proofs.laws.modules_are_one.Goals as goal

pub returns : goal.returns
returns c = modules-one
