use Rattle.ll_insts.proofs.BlocksRead.{blocks_none}
use Rattle.ll_insts.proofs.laws.refused_blocks_derive_nothing.Goals as goal

pub returns : goal.returns
returns c = blocks_none
