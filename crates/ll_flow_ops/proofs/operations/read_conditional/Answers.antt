use Rattle.std.proofs.Common.{inl, inr}
use Rattle.std.proofs.lemmas.Result.{err_from_is_err_and}
use Rattle.ll_types.proofs.MembersRead.{derived}
use Rattle.ll_operands.specs.Operands.{label_part}
use Rattle.ll_operands.specs.Parts.{mark_part, ◌then◌}
use Rattle.ll_operands.proofs.Readings.{first_refused, mark_refused, second_refused, told_as, told_refusal}
use Rattle.ll_flow_ops.specs.FlowParts.{target, target_part}
use Rattle.ll_flow_ops.proofs.OperationsRead.{branch_read}
use Rattle.ll_flow_ops.proofs.SwitchesRead.{target_is_part}
use Rattle.ll_flow_ops.proofs.operations.read_conditional.Goals as goal

pub returns-in_err-accepted : goal.returns-in_err-accepted
returns-in_err-accepted c =
    let p = err_from_is_err_and c.from_residual.result c.from_residual.ensures.1 in
    rw p.1 (told_as (target_part then mark_part 44 then label_part) _ _ _ p.2 (first_refused target_part (mark_part 44 then label_part) _ _ c.in_err-accepted.ensures))

pub returns-in_err-after : goal.returns-in_err-after
returns-in_err-after c =
    let p = err_from_is_err_and c.from_residual-in_err-after.result c.from_residual-in_err-after.ensures.1 in
    rw p.1 (told_refusal (target_part then mark_part 44 then label_part) _ _ _ p.2 (inr (_, target_is_part _ _ _ _ (derived target _ _ _ _ _ c.in_ok-accepted.ensures), inl (mark_refused 44 _ _ c.in_err-after.ensures.read c.in_err-after.ensures.place))))

pub returns-in_err-rejected : goal.returns-in_err-rejected
returns-in_err-rejected c =
    let p = err_from_is_err_and c.from_residual-in_err-rejected.result c.from_residual-in_err-rejected.ensures.1 in
    rw p.1 (told_as (target_part then mark_part 44 then label_part) _ _ _ p.2 (second_refused target_part (mark_part 44 then label_part) _ _ _ (target_is_part _ _ _ _ (derived target _ _ _ _ _ c.in_ok-accepted.ensures))
    (second_refused (mark_part 44) label_part _ _ _ c.in_ok-after.ensures.read c.in_err-rejected.ensures)))

pub returns : goal.returns
returns c = branch_read _ _ _ _ _ _ _ _ _ _ c.branch_of.ensures c.in_ok-accepted.ensures c.in_ok-after.ensures.read c.in_ok-rejected.ensures
