use Rattle.std.proofs.lemmas.Result.{err_from_is_err_and}
use Rattle.kernel_text.proofs.BlockFacts.{block_fails_at_name, block_fails_in_insts, block_read}
use Rattle.kernel_text.proofs.blocks.block.Goals as goal

pub returns-in_err-name : goal.returns-in_err-name
returns-in_err-name c =
    let p = err_from_is_err_and c.from_residual.result c.from_residual.ensures.1 in
    rw p.1 (block_fails_at_name _ _ _ p.2 c.in_err-name.ensures)

pub returns-in_err-insts : goal.returns-in_err-insts
returns-in_err-insts c =
    let p = err_from_is_err_and c.from_residual-in_err-insts.result c.from_residual-in_err-insts.ensures.1 in
    rw p.1 (block_fails_in_insts _ _ _ _ _ _ _ _ p.2 c.in_ok-name.ensures c.in_err-insts.ensures)

pub returns : goal.returns
returns c =
    block_read _ _ _ _ _ _ _ _ _ c.in_ok-name.ensures c.in_ok-insts.ensures
