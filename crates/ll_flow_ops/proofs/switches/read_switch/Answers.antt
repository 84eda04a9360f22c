use Rattle.std.proofs.Common.{inl, inr}
use Rattle.std.proofs.lemmas.Result.{err_from_is_err_and}
use Rattle.ll_operands.specs.Parts.{mark_part, ◌then◌}
use Rattle.ll_operands.proofs.Readings.{first_refused, mark_refused, second_refused, told_as, told_refusal}
use Rattle.ll_types.proofs.MembersRead.{derived}
use Rattle.ll_flow_ops.specs.FlowParts.{cases_part, switch_part, target, target_part}
use Rattle.ll_flow_ops.proofs.SwitchesRead.{switch_read, target_is_part}
use Rattle.ll_flow_ops.proofs.switches.read_switch.Goals as goal

pub returns-in_err-default : goal.returns-in_err-default
returns-in_err-default c =
    let p = err_from_is_err_and c.from_residual.result c.from_residual.ensures.1 in
    rw p.1 (told_as switch_part _ _ _ p.2 (first_refused target_part (mark_part 91 then cases_part) _ _ c.in_err-default.ensures))

pub returns-in_err-inside : goal.returns-in_err-inside
returns-in_err-inside c =
    let p = err_from_is_err_and c.from_residual-in_err-inside.result c.from_residual-in_err-inside.ensures.1 in
    rw p.1 (told_refusal switch_part _ _ _ p.2 (inr (_, target_is_part _ _ _ _ (derived target _ _ _ _ _ c.in_ok-default.ensures), inl (mark_refused 91 _ _ c.in_err-inside.ensures.read c.in_err-inside.ensures.place))))

pub returns-in_err-cases : goal.returns-in_err-cases
returns-in_err-cases c =
    let p = err_from_is_err_and c.from_residual-in_err-cases.result c.from_residual-in_err-cases.ensures.1 in
    rw p.1 (told_as switch_part _ _ _ p.2 (second_refused target_part (mark_part 91 then cases_part) _ _ _ (target_is_part _ _ _ _ (derived target _ _ _ _ _ c.in_ok-default.ensures))
    (second_refused (mark_part 91) cases_part _ _ _ c.in_ok-inside.ensures.read c.in_err-cases.ensures)))

pub returns : goal.returns
returns c = switch_read _ _ _ _ _ _ _ _ _ _ c.switch_of.ensures c.in_ok-default.ensures c.in_ok-inside.ensures.read c.in_ok-cases.ensures
