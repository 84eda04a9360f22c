use Rattle.std.proofs.Common.{inl, inr}
use Rattle.std.proofs.lemmas.Result.{err_from_is_err_and}
use Rattle.ll_parser.specs.GrammarValues.{global}
use Rattle.ll_operands.specs.Parts.{global_part, mark_part, ◌then◌}
use Rattle.ll_operands.proofs.Readings.{any_read, first_refused, global_refused, mark_refused, second_refused, told_as, told_refusal}
use Rattle.ll_items.specs.VariableParts.{contents_part, variable_head_part, variable_item}
use Rattle.ll_items.proofs.VariableFacts.{head_is_part}
use Rattle.ll_items.proofs.VariablesRead.{variable_read}
use Rattle.ll_items.proofs.variables.read_variable.Goals as goal

pub returns-in_err-name : goal.returns-in_err-name
returns-in_err-name c =
    let p = err_from_is_err_and c.from_residual.result c.from_residual.ensures.1 in
    rw p.1 (told_as variable_item _ _ _ p.2 (first_refused global_part (mark_part 61 then variable_head_part then contents_part) _ _ (global_refused _ _ c.in_err-name.ensures.read)))

pub returns-in_err-after : goal.returns-in_err-after
returns-in_err-after c =
    let p = err_from_is_err_and c.from_residual-in_err-after.result c.from_residual-in_err-after.ensures.1 in
    rw p.1 (told_refusal variable_item _ _ _ p.2 (inr (_, any_read global _ _ _ _ _ c.in_ok-name.ensures.read, inl (mark_refused 61 _ _ c.in_err-after.ensures.read c.in_err-after.ensures.place))))

pub returns-in_err-head : goal.returns-in_err-head
returns-in_err-head c =
    let p = err_from_is_err_and c.from_residual-in_err-head.result c.from_residual-in_err-head.ensures.1 in
    rw p.1 (told_refusal variable_item _ _ _ p.2 (inr (_, any_read global _ _ _ _ _ c.in_ok-name.ensures.read, inr (_, c.in_ok-after.ensures.read, inl c.in_err-head.ensures))))

pub returns-in_err-contents : goal.returns-in_err-contents
returns-in_err-contents c =
    let p = err_from_is_err_and c.from_residual-in_err-contents.result c.from_residual-in_err-contents.ensures.1 in
    rw p.1 (told_as variable_item _ _ _ p.2 (second_refused global_part (mark_part 61 then variable_head_part then contents_part) _ _ _ (any_read global _ _ _ _ _ c.in_ok-name.ensures.read)
    (second_refused (mark_part 61) (variable_head_part then contents_part) _ _ _ c.in_ok-after.ensures.read
    (second_refused variable_head_part contents_part _ _ _ (head_is_part _ _ _ _ c.in_ok-head.ensures) c.in_err-contents.ensures))))

pub returns : goal.returns
returns c = variable_read _ _ _ _ _ _ _ _ _ _ _ _ c.in_ok-name.ensures.read c.in_ok-after.ensures.read c.in_ok-head.ensures c.in_ok-contents.ensures
