use Rattle.std.proofs.lemmas.Result.{err_from_is_err_and}
use Rattle.ll_attributes.proofs.SkipsRead.{group_stops, text_read, text_stops}
use Rattle.ll_attributes.proofs.function_attributes.skip_attribute.Goals as goal

pub returns-in_err-attribute_group-in-Attr : goal.returns-in_err-attribute_group-in-Attr
returns-in_err-attribute_group-in-Attr c =
    let p = err_from_is_err_and c.from_residual.result c.from_residual.ensures.1 in
    rw p.1 (group_stops _ _ _ _ _ p.2 c.in-Some.ensures c.in-Attr.is c.in_err-attribute_group-in-Attr.ensures)

pub returns-in_err-skip_value-in-Str : goal.returns-in_err-skip_value-in-Str
returns-in_err-skip_value-in-Str c =
    let p = err_from_is_err_and c.from_residual-in_err-skip_value-in-Str.result c.from_residual-in_err-skip_value-in-Str.ensures.1 in
    rw p.1 (text_stops _ _ _ _ _ p.2 c.in-Some.ensures c.in-Str.is c.in_err-skip_value-in-Str.ensures)

pub returns-in_ok-skip_value-in-Str : goal.returns-in_ok-skip_value-in-Str
returns-in_ok-skip_value-in-Str c = text_read _ _ _ _ c.in-Some.ensures c.in-Str.is c.in_ok-skip_value-in-Str.ensures
