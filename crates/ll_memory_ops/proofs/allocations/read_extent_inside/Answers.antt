use Rattle.std.proofs.Common.{codes, inl, inr}
use Rattle.std.proofs.lemmas.Result.{err_from_is_err_and}
use Rattle.ll_parser.specs.Productions.{word}
use Rattle.ll_types.proofs.MembersRead.{derived}
use Rattle.ll_operands.specs.Parts.{number_part, word_part, ◌then◌}
use Rattle.ll_operands.proofs.Readings.{first_refused, second_refused, told_refusal}
use Rattle.ll_memory_ops.specs.AccessParts.{align_part}
use Rattle.ll_memory_ops.specs.AllocationParts.{count_here, count_part, extent_inside_part}
use Rattle.ll_memory_ops.proofs.AllocationsRead.{alone_read, count_is_part, counted_read}
use Rattle.ll_memory_ops.proofs.OperationsRead.{number_refused, other_told}
use Rattle.ll_memory_ops.proofs.allocations.read_extent_inside.Goals as goal

pub returns-in_err-bytes-in-Ok : goal.returns-in_err-bytes-in-Ok
returns-in_err-bytes-in-Ok c =
    let p = err_from_is_err_and c.from_residual.result c.from_residual.ensures.1 in
    rw p.1 (told_refusal extent_inside_part _ _ _ p.2 (inl ((_, c.in-Ok.ensures.read), inr (_, c.in-Ok.ensures.read, number_refused _ _ c.in_err-bytes-in-Ok.ensures.read c.in_err-bytes-in-Ok.ensures.place))))

pub returns-in_ok-bytes-in-Ok : goal.returns-in_ok-bytes-in-Ok
returns-in_ok-bytes-in-Ok c = alone_read _ _ _ _ _ c.in-Ok.ensures.read c.in_ok-bytes-in-Ok.ensures.read

pub returns-in_err-count-in-Err : goal.returns-in_err-count-in-Err
returns-in_err-count-in-Err c =
    let p = err_from_is_err_and c.from_residual-in_err-count-in-Err.result c.from_residual-in_err-count-in-Err.ensures.1 in
    rw p.1 (other_told (word (codes "align")) (word_part (codes "align") then number_part) (count_part then align_part) _ _ _ p.2 c.in-Err.ensures.read (first_refused count_part align_part _ _ c.in_err-count-in-Err.ensures))

pub returns-in_err-align-in-Err : goal.returns-in_err-align-in-Err
returns-in_err-align-in-Err c =
    let p = err_from_is_err_and c.from_residual-in_err-align-in-Err.result c.from_residual-in_err-align-in-Err.ensures.1 in
    rw p.1 (other_told (word (codes "align")) (word_part (codes "align") then number_part) (count_part then align_part) _ _ _ p.2 c.in-Err.ensures.read (second_refused count_part align_part _ _ _ (count_is_part _ _ _ _ (derived count_here _ _ _ _ _ c.in_ok-count-in-Err.ensures)) c.in_err-align-in-Err.ensures))

pub returns-in_ok-align-in-Err : goal.returns-in_ok-align-in-Err
returns-in_ok-align-in-Err c = counted_read _ _ _ _ _ _ _ c.in_ok-count-in-Err.ensures c.in_ok-align-in-Err.ensures
