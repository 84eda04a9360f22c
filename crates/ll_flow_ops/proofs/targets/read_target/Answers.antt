use Rattle.std.proofs.Common.{inl, inr}
use Rattle.std.proofs.lemmas.Result.{err_from_is_err_and}
use Rattle.ll_parser.specs.GrammarValues.{typed}
use Rattle.ll_operands.specs.Operands.{label_part}
use Rattle.ll_operands.specs.Parts.{mark_part, ◌then◌, typed_part}
use Rattle.ll_operands.proofs.Readings.{any_read, first_refused, mark_refused, second_refused, told_as, told_refusal, typed_refused}
use Rattle.ll_flow_ops.specs.FlowParts.{target_part}
use Rattle.ll_flow_ops.proofs.SwitchesRead.{target_read}
use Rattle.ll_flow_ops.proofs.targets.read_target.Goals as goal

pub returns-in_err-value : goal.returns-in_err-value
returns-in_err-value c =
    let p = err_from_is_err_and c.from_residual.result c.from_residual.ensures.1 in
    rw p.1 (told_as target_part _ _ _ p.2 (first_refused typed_part (mark_part 44 then label_part) _ _ (typed_refused _ _ c.in_err-value.ensures)))

pub returns-in_err-after : goal.returns-in_err-after
returns-in_err-after c =
    let p = err_from_is_err_and c.from_residual-in_err-after.result c.from_residual-in_err-after.ensures.1 in
    rw p.1 (told_refusal target_part _ _ _ p.2 (inr (_, any_read typed _ _ _ _ _ c.in_ok-value.ensures, inl (mark_refused 44 _ _ c.in_err-after.ensures.read c.in_err-after.ensures.place))))

pub returns-in_err-block : goal.returns-in_err-block
returns-in_err-block c =
    let p = err_from_is_err_and c.from_residual-in_err-block.result c.from_residual-in_err-block.ensures.1 in
    rw p.1 (told_as target_part _ _ _ p.2 (second_refused typed_part (mark_part 44 then label_part) _ _ _ (any_read typed _ _ _ _ _ c.in_ok-value.ensures)
    (second_refused (mark_part 44) label_part _ _ _ c.in_ok-after.ensures.read c.in_err-block.ensures)))

pub returns : goal.returns
returns c = target_read _ _ _ _ _ _ _ _ _ c.in_ok-value.ensures c.in_ok-after.ensures.read c.in_ok-block.ensures
