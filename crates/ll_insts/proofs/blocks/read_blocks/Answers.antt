use Rattle.std.proofs.lemmas.Result.{err_from_is_err_and}
use Rattle.ll_insts.proofs.BlocksRead.{all_read, first_block_refused, more_refused}
use Rattle.ll_insts.proofs.blocks.read_blocks.Goals as goal

pub returns-in_err-first : goal.returns-in_err-first
returns-in_err-first c =
    let p = err_from_is_err_and c.from_residual.result c.from_residual.ensures.1 in
    rw p.1 (first_block_refused _ _ _ p.2 c.in_err-first.ensures)

pub returns-in_err-others : goal.returns-in_err-others
returns-in_err-others c =
    let p = err_from_is_err_and c.from_residual-in_err-others.result c.from_residual-in_err-others.ensures.1 in
    rw p.1 (more_refused _ _ _ _ _ _ _ _ _ p.2 c.in_ok-first.ensures c.in_err-others.ensures)

pub returns : goal.returns
returns c = all_read _ _ _ _ _ _ _ _ _ _ _ c.in_ok-blocks.ensures c.in_ok-first.ensures c.in_ok-others.ensures
