use Rattle.std.proofs.Common.{codes}
use Rattle.std.proofs.lemmas.Result.{err_from_is_err_and}
use Rattle.ll_parser.specs.Productions.{word}
use Rattle.ll_operands.specs.Operands.{label_part}
use Rattle.ll_operands.specs.Parts.{mark_part, ◌then◌}
use Rattle.ll_operands.proofs.Readings.{told_as}
use Rattle.ll_flow_ops.specs.FlowParts.{branch_part, target_part}
use Rattle.ll_flow_ops.proofs.OperationsRead.{either_refused, jump_read, other_refused}
use Rattle.ll_flow_ops.proofs.operations.read_branch.Goals as goal

pub returns-in_err-target-in-Ok : goal.returns-in_err-target-in-Ok
returns-in_err-target-in-Ok c =
    let p = err_from_is_err_and c.from_residual.result c.from_residual.ensures.1 in
    rw p.1 (told_as branch_part _ _ _ p.2 (either_refused (word (codes "label")) label_part (target_part then mark_part 44 then label_part) _ _ (_, c.in-Ok.ensures.read) c.in_err-target-in-Ok.ensures))

pub returns-in_ok-target-in-Ok : goal.returns-in_ok-target-in-Ok
returns-in_ok-target-in-Ok c = jump_read _ _ _ _ _ c.in_ok-target-in-Ok.ensures

pub returns-in_err-operation-in-Err : goal.returns-in_err-operation-in-Err
returns-in_err-operation-in-Err c =
    let p = err_from_is_err_and c.from_residual-in_err-operation-in-Err.result c.from_residual-in_err-operation-in-Err.ensures.1 in
    rw p.1 (told_as branch_part _ _ _ p.2 (other_refused (word (codes "label")) label_part (target_part then mark_part 44 then label_part) _ _ c.in-Err.ensures.read c.in_err-operation-in-Err.ensures))
