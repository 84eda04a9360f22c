use Rattle.std.proofs.Common.{inl, inr}
use Rattle.std.proofs.lemmas.Result.{err_from_is_err_and}
use Rattle.ll_tree.specs.Types.{int_width}
use Rattle.ll_operands.specs.Operands.{one_type_part}
use Rattle.ll_operands.specs.Parts.{mark_part, ◌then◌, value_part}
use Rattle.ll_types.specs.TypeParts.{ty_here}
use Rattle.ll_types.proofs.MembersRead.{derived}
use Rattle.ll_operands.proofs.OperandFacts.{one_type_read}
use Rattle.ll_operands.proofs.Readings.{any_value_read, first_refused, mark_refused, refused_behind_type, second_refused, told_as, told_refusal, type_refused, type_refused_first, value_refused}
use Rattle.ll_operands.proofs.operands.read_of_one_type.Goals as goal

pub returns-in_err-ty : goal.returns-in_err-ty
returns-in_err-ty c =
    let p = err_from_is_err_and c.from_residual.result c.from_residual.ensures.1 in
    rw p.1 (told_as one_type_part _ _ _ p.2 (type_refused_first (λ width. value_part width then mark_part 44 then value_part width) _ _ (type_refused _ _ c.in_err-ty.ensures)))

pub returns-in_err-left : goal.returns-in_err-left
returns-in_err-left c =
    let p = err_from_is_err_and c.from_residual-in_err-left.result c.from_residual-in_err-left.ensures.1 in
    rw p.1 (told_as one_type_part _ _ _ p.2 (refused_behind_type (λ width. value_part width then mark_part 44 then value_part width) _ _ _ _ _ (derived ty_here _ _ _ _ _ c.in_ok-ty.ensures)
    (first_refused (value_part (int_width c.in_ok-ty.ty)) (mark_part 44 then value_part (int_width c.in_ok-ty.ty)) _ _ (value_refused _ _ _ c.in_err-left.ensures))))

pub returns-in_err-after : goal.returns-in_err-after
returns-in_err-after c =
    let p = err_from_is_err_and c.from_residual-in_err-after.result c.from_residual-in_err-after.ensures.1 in
    rw p.1 (told_refusal one_type_part _ _ _ p.2 (inr (
      _,
      _,
      _,
      derived ty_here _ _ _ _ _ c.in_ok-ty.ensures,
      inr (_, any_value_read _ _ _ _ _ _ c.in_ok-left.ensures, inl (mark_refused 44 _ _ c.in_err-after.ensures.read c.in_err-after.ensures.place)),
    )))

pub returns-in_err-right : goal.returns-in_err-right
returns-in_err-right c =
    let p = err_from_is_err_and c.from_residual-in_err-right.result c.from_residual-in_err-right.ensures.1 in
    rw p.1 (told_as one_type_part _ _ _ p.2 (refused_behind_type (λ width. value_part width then mark_part 44 then value_part width) _ _ _ _ _ (derived ty_here _ _ _ _ _ c.in_ok-ty.ensures)
    (second_refused (value_part (int_width c.in_ok-ty.ty)) (mark_part 44 then value_part (int_width c.in_ok-ty.ty)) _ _ _ (any_value_read _ _ _ _ _ _ c.in_ok-left.ensures)
    (second_refused (mark_part 44) (value_part (int_width c.in_ok-ty.ty)) _ _ _ c.in_ok-after.ensures.read (value_refused _ _ _ c.in_err-right.ensures)))))

pub returns : goal.returns
returns c = one_type_read _ _ _ _ _ _ _ _ _ _ _ _ c.in_ok-ty.ensures c.in_ok-left.ensures c.in_ok-after.ensures.read c.in_ok-right.ensures
