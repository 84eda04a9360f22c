use Rattle.std.proofs.Common.{inl, inr}
use Rattle.std.proofs.lemmas.Result.{err_from_is_err_and}
use Rattle.ll_operands.specs.Parts.{mark_part, ◌then◌}
use Rattle.ll_operands.proofs.Readings.{first_refused, mark_refused, second_refused, told_as, told_refusal}
use Rattle.ll_calls.specs.CallParts.{arguments_part, called_part, callee_part, function_attributes_part}
use Rattle.ll_calls.proofs.CallsRead.{arguments_begin, called_read, callee_begins}
use Rattle.ll_calls.proofs.calls.read_called.Goals as goal

pub returns-in_err-callee : goal.returns-in_err-callee
returns-in_err-callee c =
    let p = err_from_is_err_and c.from_residual.result c.from_residual.ensures.1 in
    rw p.1 (told_as called_part _ _ _ p.2 (first_refused callee_part (mark_part 40 then arguments_part then function_attributes_part) _ _ c.in_err-callee.ensures))

pub returns-in_err-inside : goal.returns-in_err-inside
returns-in_err-inside c =
    let p = err_from_is_err_and c.from_residual-in_err-inside.result c.from_residual-in_err-inside.ensures.1 in
    rw p.1 (told_refusal called_part _ _ _ p.2 (inr (_, callee_begins _ _ _ _ _ c.in_ok-callee.ensures, inl (mark_refused 40 _ _ c.in_err-inside.ensures.read c.in_err-inside.ensures.place))))

pub returns-in_err-arguments : goal.returns-in_err-arguments
returns-in_err-arguments c =
    let p = err_from_is_err_and c.from_residual-in_err-arguments.result c.from_residual-in_err-arguments.ensures.1 in
    rw p.1 (told_as called_part _ _ _ p.2 (second_refused callee_part (mark_part 40 then arguments_part then function_attributes_part) _ _ _ (callee_begins _ _ _ _ _ c.in_ok-callee.ensures)
    (second_refused (mark_part 40) (arguments_part then function_attributes_part) _ _ _ c.in_ok-inside.ensures.read (first_refused arguments_part function_attributes_part _ _ c.in_err-arguments.ensures))))

pub returns-in_err-rest : goal.returns-in_err-rest
returns-in_err-rest c =
    let p = err_from_is_err_and c.from_residual-in_err-rest.result c.from_residual-in_err-rest.ensures.1 in
    rw p.1 (told_refusal called_part _ _ _ p.2 (inr (
      _,
      callee_begins _ _ _ _ _ c.in_ok-callee.ensures,
      inr (_, c.in_ok-inside.ensures.read, inr (_, arguments_begin _ _ _ _ _ c.in_ok-arguments.ensures, c.in_err-rest.ensures.1)),
    )))

pub returns : goal.returns
returns c = called_read _ _ _ _ _ _ _ _ _ _ c.in_ok-callee.ensures c.in_ok-inside.ensures.read c.in_ok-arguments.ensures c.in_ok-rest.ensures
