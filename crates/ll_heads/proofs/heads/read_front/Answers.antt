use Rattle.std.proofs.lemmas.Result.{err_from_is_err_and}
use Rattle.ll_types.specs.TypeParts.{ty_here}
use Rattle.ll_operands.specs.Parts.{global_part, ◌then◌, type_part}
use Rattle.ll_operands.proofs.Readings.{any_read, first_refused, global_refused, second_refused, told_as, type_refused}
use Rattle.ll_attributes.specs.AttributeParts.{attributes_here}
use Rattle.ll_heads.specs.HeadParts.{attributes_part, front_part}
use Rattle.ll_heads.proofs.HeadsRead.{front_read, refused_behind_words}
use Rattle.ll_heads.proofs.ParamsRead.{attributes_refused}
use Rattle.ll_heads.proofs.heads.read_front.Goals as goal

pub returns-in_err-attributes : goal.returns-in_err-attributes
returns-in_err-attributes c =
    let p = err_from_is_err_and c.from_residual.result c.from_residual.ensures.1 in
    rw p.1 (told_as front_part _ _ _ p.2 (refused_behind_words _ _ _ _ _ _ _ c.read_linkage-linkage.ensures c.skip_word_if_there-at_convention.ensures c.is_kernel-is_kernel.ensures
    (first_refused attributes_part (type_part then global_part) _ _ (attributes_refused _ _ c.in_err-attributes.ensures))))

pub returns-in_err-ty : goal.returns-in_err-ty
returns-in_err-ty c =
    let p = err_from_is_err_and c.from_residual-in_err-ty.result c.from_residual-in_err-ty.ensures.1 in
    rw p.1 (told_as front_part _ _ _ p.2 (refused_behind_words _ _ _ _ _ _ _ c.read_linkage-linkage.ensures c.skip_word_if_there-at_convention.ensures c.is_kernel-is_kernel.ensures
    (second_refused attributes_part (type_part then global_part) _ _ _ (any_read attributes_here _ _ _ _ _ c.in_ok-attributes.ensures)
    (first_refused type_part global_part _ _ (type_refused _ _ c.in_err-ty.ensures)))))

pub returns-in_err-name : goal.returns-in_err-name
returns-in_err-name c =
    let p = err_from_is_err_and c.from_residual-in_err-name.result c.from_residual-in_err-name.ensures.1 in
    rw p.1 (told_as front_part _ _ _ p.2 (refused_behind_words _ _ _ _ _ _ _ c.read_linkage-linkage.ensures c.skip_word_if_there-at_convention.ensures c.is_kernel-is_kernel.ensures
    (second_refused attributes_part (type_part then global_part) _ _ _ (any_read attributes_here _ _ _ _ _ c.in_ok-attributes.ensures)
    (second_refused type_part global_part _ _ _ (any_read ty_here _ _ _ _ _ c.in_ok-ty.ensures) (global_refused _ _ c.in_err-name.ensures.read)))))

pub returns : goal.returns
returns c =
    front_read _ _ _ _ _ _ _ _ _ _ _ _ _ _ _ _ c.read_linkage-linkage.ensures c.skip_word_if_there-at_convention.ensures c.is_kernel-is_kernel.ensures
    c.in_ok-attributes.ensures c.in_ok-ty.ensures c.in_ok-name.ensures.read
