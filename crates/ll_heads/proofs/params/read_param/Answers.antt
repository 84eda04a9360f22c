use Rattle.std.proofs.lemmas.Result.{err_from_is_err_and}
use Rattle.ll_types.specs.TypeParts.{ty_here}
use Rattle.ll_operands.specs.Parts.{◌then◌, type_part}
use Rattle.ll_operands.proofs.Readings.{any_read, first_refused, second_refused, told_as}
use Rattle.ll_attributes.specs.AttributeParts.{attributes_here}
use Rattle.ll_heads.specs.HeadParts.{attributes_part, name_part, param_part}
use Rattle.ll_heads.proofs.ParamsRead.{attributes_refused, param_read}
use Rattle.ll_heads.proofs.params.read_param.Goals as goal

pub returns-in_err-attributes : goal.returns-in_err-attributes
returns-in_err-attributes c =
    let p = err_from_is_err_and c.from_residual-in_err-attributes.result c.from_residual-in_err-attributes.ensures.1 in
    rw p.1 (told_as param_part _ _ _ p.2 (second_refused type_part (attributes_part then name_part) _ _ _ (any_read ty_here _ _ _ _ _ c.in_ok-ty.ensures)
    (first_refused attributes_part name_part _ _ (attributes_refused _ _ c.in_err-attributes.ensures))))

pub returns-in_err-name : goal.returns-in_err-name
returns-in_err-name c =
    let p = err_from_is_err_and c.from_residual-in_err-name.result c.from_residual-in_err-name.ensures.1 in
    rw p.1 (told_as param_part _ _ _ p.2 (second_refused type_part (attributes_part then name_part) _ _ _ (any_read ty_here _ _ _ _ _ c.in_ok-ty.ensures)
    (second_refused attributes_part name_part _ _ _ (any_read attributes_here _ _ _ _ _ c.in_ok-attributes.ensures) c.in_err-name.ensures)))

pub returns : goal.returns
returns c = param_read _ _ _ _ _ _ _ _ _ _ _ _ _ _ c.first_place-byte.ensures c.in_ok-ty.ensures c.in_ok-attributes.ensures c.in_ok-name.ensures
