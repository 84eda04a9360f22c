use Rattle.std.proofs.lemmas.Result.{err_from_is_err_and}
use Rattle.ll_operands.proofs.Readings.{told_as}
use Rattle.ll_memory_ops.specs.OrderParts.{scoped_order_part}
use Rattle.ll_memory_ops.proofs.AtomicsRead.{fence_read}
use Rattle.ll_memory_ops.proofs.atomics.read_fence.Goals as goal

pub returns-in_err-ordered : goal.returns-in_err-ordered
returns-in_err-ordered c =
    let p = err_from_is_err_and c.from_residual.result c.from_residual.ensures.1 in
    rw p.1 (told_as scoped_order_part _ _ _ p.2 c.in_err-ordered.ensures)

pub returns : goal.returns
returns c = fence_read _ _ _ _ _ c.fence_of.ensures c.in_ok-ordered.ensures
