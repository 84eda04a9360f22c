use Rattle.std.proofs.Common.{inl, inr}
use Rattle.std.proofs.lemmas.Result.{err_from_is_err_and}
use Rattle.ll_types.specs.TypeParts.{ty_here}
use Rattle.ll_operands.specs.Parts.{mark_part, type_part, typed_part, ◌then◌}
use Rattle.ll_operands.proofs.Readings.{any_read, mark_refused, told_refusal, type_refused, typed_refused}
use Rattle.ll_memory_ops.specs.AccessParts.{pointee_part}
use Rattle.ll_memory_ops.proofs.AccessesRead.{pointee_read}
use Rattle.ll_memory_ops.proofs.OperationsRead.{told_first, told_third}
use Rattle.ll_memory_ops.proofs.accesses.read_pointee.Goals as goal

pub returns-in_err-ty : goal.returns-in_err-ty
returns-in_err-ty c =
    let p = err_from_is_err_and c.from_residual.result c.from_residual.ensures.1 in
    rw p.1 (told_first type_part (mark_part 44 then typed_part) _ _ _ p.2 (type_refused _ _ c.in_err-ty.ensures))

pub returns-in_err-after : goal.returns-in_err-after
returns-in_err-after c =
    let p = err_from_is_err_and c.from_residual-in_err-after.result c.from_residual-in_err-after.ensures.1 in
    rw p.1 (told_refusal pointee_part _ _ _ p.2 (inr (_, any_read ty_here _ _ _ _ _ c.in_ok-ty.ensures, inl (mark_refused 44 _ _ c.in_err-after.ensures.read c.in_err-after.ensures.place))))

pub returns-in_err-pointer : goal.returns-in_err-pointer
returns-in_err-pointer c =
    let p = err_from_is_err_and c.from_residual-in_err-pointer.result c.from_residual-in_err-pointer.ensures.1 in
    rw p.1 (told_third type_part (mark_part 44) typed_part _ _ _ _ p.2 (any_read ty_here _ _ _ _ _ c.in_ok-ty.ensures) _ c.in_ok-after.ensures.read (typed_refused _ _ c.in_err-pointer.ensures))

pub returns : goal.returns
returns c = pointee_read _ _ _ _ _ _ _ _ _ c.in_ok-ty.ensures c.in_ok-after.ensures.read c.in_ok-pointer.ensures
