use Rattle.std.proofs.Common.{refl}
use Rattle.std.proofs.lemmas.Result.{err_from_is_err_and}
use Rattle.ll_insts.proofs.BlocksRead.{blocks_read, blocks_refused, close_stands, fewer_blocks, more_of_blocks, none_yet}
use Rattle.ll_insts.proofs.blocks.read_more_blocks.Goals as goal

pub loop-alloc-init : goal.loop-alloc-init
loop-alloc-init c = none_yet _ _ _ _ _ c.new-blocks.ensures.items refl

pub returns-in_err-block : goal.returns-in_err-block
returns-in_err-block c =
    let p = err_from_is_err_and c.from_residual.result c.from_residual.ensures.1 in
    rw p.1 (blocks_refused _ _ _ _ _ _ _ _ _ _ _ p.2 c.loop-alloc.invariant c.last.ensures c.last-in-loop-alloc.ensures (c.loop-alloc-test.ensures.absent refl) c.in_err-block.ensures)

pub loop-alloc-smaller : goal.loop-alloc-smaller
loop-alloc-smaller c =
    fewer_blocks _ _ _ _ _ _ _ _ _ _ _ _ _ c.loop-alloc.invariant c.last.ensures c.last-in-loop-alloc.ensures (c.loop-alloc-test.ensures.absent refl) c.in_ok-block.ensures

pub loop-alloc-preserved : goal.loop-alloc-preserved
loop-alloc-preserved c =
    more_of_blocks _ _ _ _ _ _ _ _ _ _ _ _ _ _ _ c.loop-alloc.invariant c.last.ensures c.last-in-loop-alloc.ensures (c.loop-alloc-test.ensures.absent refl) c.in_ok-block.ensures c.in_ok-push_block.ensures refl

pub returns-in_err-rest : goal.returns-in_err-rest
returns-in_err-rest c = close_stands c.args.tokens.now c.last.result.now c.last-2.result.now c.loop-alloc.left c.last.ensures c.last-2.ensures (c.loop-alloc-test.ensures.there refl) c.in_err-rest.ensures.read

pub returns : goal.returns
returns c = blocks_read _ _ _ _ _ _ _ _ _ c.loop-alloc.invariant c.last-2.ensures c.in_ok-rest.ensures.read
