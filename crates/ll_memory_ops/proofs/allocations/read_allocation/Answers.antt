use Rattle.std.proofs.lemmas.Result.{err_from_is_err_and}
use Rattle.ll_types.specs.TypeParts.{ty_here}
use Rattle.ll_operands.specs.Parts.{type_part}
use Rattle.ll_operands.proofs.Readings.{any_read, type_refused}
use Rattle.ll_memory_ops.specs.AllocationParts.{extent_part}
use Rattle.ll_memory_ops.proofs.AllocationsRead.{alloca_read}
use Rattle.ll_memory_ops.proofs.OperationsRead.{told_first, told_second}
use Rattle.ll_memory_ops.proofs.allocations.read_allocation.Goals as goal

pub returns-in_err-ty : goal.returns-in_err-ty
returns-in_err-ty c =
    let p = err_from_is_err_and c.from_residual.result c.from_residual.ensures.1 in
    rw p.1 (told_first type_part extent_part _ _ _ p.2 (type_refused _ _ c.in_err-ty.ensures))

pub returns-in_err-extent : goal.returns-in_err-extent
returns-in_err-extent c =
    let p = err_from_is_err_and c.from_residual-in_err-extent.result c.from_residual-in_err-extent.ensures.1 in
    rw p.1 (told_second type_part extent_part _ _ _ p.2 _ (any_read ty_here _ _ _ _ _ c.in_ok-ty.ensures) c.in_err-extent.ensures)

pub returns : goal.returns
returns c = alloca_read _ _ _ _ _ _ _ _ _ c.allocation_of.ensures c.in_ok-ty.ensures c.in_ok-extent.ensures
