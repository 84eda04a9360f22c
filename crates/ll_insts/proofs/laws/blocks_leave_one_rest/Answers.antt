use Rattle.ll_insts.proofs.BlocksRead.{blocks_one}
use Rattle.ll_insts.proofs.laws.blocks_leave_one_rest.Goals as goal

pub returns : goal.returns
returns c = blocks_one
