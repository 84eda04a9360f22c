use Rattle.std.proofs.lemmas.Result.{err_from_is_err_and}
use Rattle.ll_operands.specs.Parts.{mark_part, operand_comma, ◌then◌}
use Rattle.ll_operands.proofs.Readings.{second_refused}
use Rattle.ll_memory_ops.specs.AllocationParts.{extent_inside_part}
use Rattle.ll_memory_ops.proofs.AllocationsRead.{extent_read, nothing_read}
use Rattle.ll_memory_ops.proofs.OperationsRead.{optional_told}
use Rattle.ll_memory_ops.proofs.allocations.read_extent.Goals as goal

pub returns-in_err-extent-in-Some : goal.returns-in_err-extent-in-Some
returns-in_err-extent-in-Some c =
    let p = err_from_is_err_and c.from_residual.result c.from_residual.ensures.1 in
    rw p.1 (optional_told operand_comma (mark_part 44 then extent_inside_part) _ _ _ p.2 (_, c.in-Some.ensures) (second_refused (mark_part 44) extent_inside_part _ _ _ c.in-Some.ensures.0 c.in_err-extent-in-Some.ensures))

pub returns-in_ok-extent-in-Some : goal.returns-in_ok-extent-in-Some
returns-in_ok-extent-in-Some c = extent_read _ _ _ _ _ _ c.in-Some.ensures c.in_ok-extent-in-Some.ensures

pub returns-in-None : goal.returns-in-None
returns-in-None c = nothing_read _ _ c.in-None.ensures
