use Rattle.std.proofs.lemmas.Result.{err_from_is_err_and}
use Rattle.ll_types.specs.TypeParts.{ty_here}
use Rattle.ll_operands.specs.Parts.{global_part, ◌then◌, type_part}
use Rattle.ll_operands.proofs.Readings.{any_read, first_refused, global_refused, second_refused, told_as, type_refused}
use Rattle.ll_attributes.specs.AttributeParts.{attributes_here}
use Rattle.ll_calls.specs.CallParts.{attributes_part, callee_part, convention_part}
use Rattle.ll_calls.proofs.ArgumentsRead.{attributes_refused}
use Rattle.ll_calls.proofs.CallsRead.{callee_read}
use Rattle.ll_calls.proofs.callees.read_callee.Goals as goal

pub returns-in_err-_dropped : goal.returns-in_err-_dropped
returns-in_err-_dropped c =
    let p = err_from_is_err_and c.from_residual.result c.from_residual.ensures.1 in
    rw p.1 (told_as callee_part _ _ _ p.2 (second_refused convention_part (attributes_part then type_part then global_part) _ _ _ c.skip_convention-at_attributes.ensures
    (first_refused attributes_part (type_part then global_part) _ _ (attributes_refused _ _ c.in_err-_dropped.ensures))))

pub returns-in_err-ty : goal.returns-in_err-ty
returns-in_err-ty c =
    let p = err_from_is_err_and c.from_residual-in_err-ty.result c.from_residual-in_err-ty.ensures.1 in
    rw p.1 (told_as callee_part _ _ _ p.2 (second_refused convention_part (attributes_part then type_part then global_part) _ _ _ c.skip_convention-at_attributes.ensures
    (second_refused attributes_part (type_part then global_part) _ _ _ (any_read attributes_here _ _ _ _ _ c.in_ok-_dropped.ensures)
    (first_refused type_part global_part _ _ (type_refused _ _ c.in_err-ty.ensures)))))

pub returns-in_err-name : goal.returns-in_err-name
returns-in_err-name c =
    let p = err_from_is_err_and c.from_residual-in_err-name.result c.from_residual-in_err-name.ensures.1 in
    rw p.1 (told_as callee_part _ _ _ p.2 (second_refused convention_part (attributes_part then type_part then global_part) _ _ _ c.skip_convention-at_attributes.ensures
    (second_refused attributes_part (type_part then global_part) _ _ _ (any_read attributes_here _ _ _ _ _ c.in_ok-_dropped.ensures)
    (second_refused type_part global_part _ _ _ (any_read ty_here _ _ _ _ _ c.in_ok-ty.ensures) (global_refused _ _ c.in_err-name.ensures.read)))))

pub returns : goal.returns
returns c = callee_read _ _ _ _ _ _ _ _ _ _ _ _ c.skip_convention-at_attributes.ensures c.in_ok-_dropped.ensures c.in_ok-ty.ensures c.in_ok-name.ensures.read
