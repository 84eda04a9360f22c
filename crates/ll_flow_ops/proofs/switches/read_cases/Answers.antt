use Rattle.std.proofs.Common.{inr, refl}
use Rattle.std.proofs.lemmas.Result.{err_from_is_err_and}
use Rattle.ll_parser.specs.GrammarInsts.{switch_case}
use Rattle.ll_operands.specs.Parts.{mark_part, repeated}
use Rattle.ll_operands.proofs.Readings.{first_refused, mark_refused, told_as, told_refusal}
use Rattle.ll_flow_ops.specs.FlowParts.{cases_part, no_close, target_part}
use Rattle.ll_operands.proofs.ItemsRead.{item_fewer, one_more, repeated_refused, so_far_times}
use Rattle.ll_flow_ops.proofs.SwitchesRead.{case_is_part, case_shortens, cases_end, cases_read, first_case}
use Rattle.ll_flow_ops.proofs.switches.read_cases.Goals as goal

pub loop-cases-init : goal.loop-cases-init
loop-cases-init c = first_case _ _ _ _ c.new-cases.ensures refl

pub returns-in_err-case : goal.returns-in_err-case
returns-in_err-case c =
    let p = err_from_is_err_and c.from_residual.result c.from_residual.ensures.1 in
    rw p.1 (told_as cases_part _ _ _ p.2 (first_refused (repeated no_close target_part) (mark_part 93) _ _
    (repeated_refused no_close target_part _ _ _ (so_far_times switch_case case_shortens target_part case_is_part _ _ _ _ _ _ _ c.loop-cases.invariant c.last.ensures) c.in_err-case.ensures)))

pub loop-cases-smaller : goal.loop-cases-smaller
loop-cases-smaller c =
    let one = rw c.in-Some.is at c.in_ok-case.ensures in item_fewer switch_case case_shortens _ _ _ _ _ _ _ _ _ _ c.loop-cases.invariant c.last.ensures one

pub loop-cases-preserved : goal.loop-cases-preserved
loop-cases-preserved c =
    let one = rw c.in-Some.is at c.in_ok-case.ensures in one_more switch_case case_shortens _ _ _ _ _ _ _ _ _ _ _ _ c.loop-cases.invariant c.last.ensures one c.in_ok-push_case.ensures refl

pub returns-in_err-rest : goal.returns-in_err-rest
returns-in_err-rest c =
    let p = err_from_is_err_and c.from_residual-in_err-rest.result c.from_residual-in_err-rest.ensures.1 in
    let none = rw c.in_default.is at c.in_ok-case.ensures in
    rw p.1 (told_refusal cases_part _ _ _ p.2 (inr (_, cases_end _ _ _ _ _ _ _ _ c.loop-cases.invariant c.last.ensures c.last-2.ensures none.1, mark_refused 93 _ _ c.in_err-rest.ensures.read c.in_err-rest.ensures.place)))

pub returns : goal.returns
returns c =
    let none = rw c.in_default.is at c.in_ok-case.ensures in
    cases_read _ _ _ _ _ _ _ _ _ none.0 refl c.loop-cases.invariant c.last-2.ensures c.in_ok-rest.ensures.read
