use Rattle.std.proofs.Common.{refl}
use Rattle.std.proofs.lemmas.Result.{err_from_is_err_and}
use Rattle.ll_insts.proofs.BlocksRead.{block_read, insts_refused, label_refused}
use Rattle.ll_insts.proofs.blocks.read_block.Goals as goal

pub returns-in_err-label : goal.returns-in_err-label
returns-in_err-label c =
    let p = err_from_is_err_and c.from_residual.result c.from_residual.ensures.1 in
    rw p.1 (label_refused _ _ _ p.2 c.in_err-label.ensures)

pub returns-in_err-insts : goal.returns-in_err-insts
returns-in_err-insts c =
    let p = err_from_is_err_and c.from_residual-in_err-insts.result c.from_residual-in_err-insts.ensures.1 in
    rw p.1 (insts_refused _ _ _ _ _ _ _ _ _ p.2 c.in_ok-label.ensures c.in_err-insts.ensures)

pub returns : goal.returns
returns c = block_read _ _ _ _ _ _ _ _ _ _ _ _ refl c.in_ok-label.ensures c.in_ok-insts.ensures
