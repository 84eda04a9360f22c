use Rattle.ll_insts.proofs.BlocksRead.{blocks_is_part}
use Rattle.ll_insts.proofs.laws.blocks_are_parts.Goals as goal

pub returns : goal.returns
returns c = blocks_is_part
