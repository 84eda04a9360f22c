use Rattle.std.proofs.Common.{inl, inr}
use Rattle.std.proofs.lemmas.Result.{err_from_is_err_and}
use Rattle.ll_tree.specs.Types.{int_width}
use Rattle.ll_operands.specs.Parts.{◌then◌, value_part}
use Rattle.ll_types.specs.TypeParts.{ty_here}
use Rattle.ll_types.proofs.MembersRead.{derived}
use Rattle.ll_operands.proofs.Readings.{any_value_read, first_refused, refused_behind_type, told_as, told_refusal, type_refused, type_refused_first, value_refused}
use Rattle.ll_items.specs.VariableParts.{alignment_part, behind_variable_type, contents_part, skipped_part}
use Rattle.ll_items.proofs.VariableFacts.{align_is_part}
use Rattle.ll_items.proofs.VariablesRead.{contents_read}
use Rattle.ll_items.proofs.variables.read_contents.Goals as goal

pub returns-in_err-ty : goal.returns-in_err-ty
returns-in_err-ty c =
    let p = err_from_is_err_and c.from_residual.result c.from_residual.ensures.1 in
    rw p.1 (told_as contents_part _ _ _ p.2 (type_refused_first behind_variable_type _ _ (type_refused _ _ c.in_err-ty.ensures)))

pub returns-in_err-init : goal.returns-in_err-init
returns-in_err-init c =
    let p = err_from_is_err_and c.from_residual-in_err-init.result c.from_residual-in_err-init.ensures.1 in
    rw p.1 (told_as contents_part _ _ _ p.2 (refused_behind_type behind_variable_type _ _ _ _ _ (derived ty_here _ _ _ _ _ c.in_ok-ty.ensures)
    (first_refused (value_part (int_width c.in_ok-ty.ty)) (alignment_part then skipped_part) _ _ (value_refused _ _ _ c.in_err-init.ensures))))

pub returns-in_err-align : goal.returns-in_err-align
returns-in_err-align c =
    let p = err_from_is_err_and c.from_residual-in_err-align.result c.from_residual-in_err-align.ensures.1 in
    rw p.1 (told_refusal contents_part _ _ _ p.2 (inr (
      _,
      _,
      _,
      derived ty_here _ _ _ _ _ c.in_ok-ty.ensures,
      inr (_, any_value_read _ _ _ _ _ _ c.in_ok-init.ensures, inl c.in_err-align.ensures),
    )))

pub returns-in_err-rest : goal.returns-in_err-rest
returns-in_err-rest c =
    let p = err_from_is_err_and c.from_residual-in_err-rest.result c.from_residual-in_err-rest.ensures.1 in
    rw p.1 (told_refusal contents_part _ _ _ p.2 (inr (
      _,
      _,
      _,
      derived ty_here _ _ _ _ _ c.in_ok-ty.ensures,
      inr (_, any_value_read _ _ _ _ _ _ c.in_ok-init.ensures, inr (_, align_is_part _ _ _ c.in_ok-align.ensures, c.in_err-rest.ensures.1)),
    )))

pub returns : goal.returns
returns c = contents_read _ _ _ _ _ _ _ _ _ _ _ c.in_ok-ty.ensures c.in_ok-init.ensures c.in_ok-align.ensures c.in_ok-rest.ensures
