use Rattle.ll_one_module.proofs.OneModule.{blocks-one}
use Rattle.ll_one_module.proofs.laws.blocks_are_one.Goals as goal

pub returns : goal.returns
returns c = blocks-one
