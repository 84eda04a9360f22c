use Rattle.std.proofs.Common.{codes, inl, inr}
use Rattle.std.proofs.lemmas.Result.{err_from_is_err_and}
use Rattle.ll_parser.specs.GrammarTypes.{type_name}
use Rattle.ll_operands.specs.Parts.{mark_part, ◌then◌, type_part, word_part}
use Rattle.ll_operands.proofs.Readings.{any_read, mark_refused, second_refused, told_as, told_refusal, type_refused, word_refused}
use Rattle.ll_items.specs.ItemParts.{struct_item, type_name_part}
use Rattle.ll_items.proofs.ItemsRead.{struct_read}
use Rattle.ll_items.proofs.structs.read_struct_type.Goals as goal

pub returns-in_err-after : goal.returns-in_err-after
returns-in_err-after c =
    let p = err_from_is_err_and c.from_residual-in_err-after.result c.from_residual-in_err-after.ensures.1 in
    rw p.1 (told_refusal struct_item _ _ _ p.2 (inr (_, any_read type_name _ _ _ _ _ c.in_ok-name.ensures.read, inl (mark_refused 61 _ _ c.in_err-after.ensures.read c.in_err-after.ensures.place))))

pub returns-in_err-inside : goal.returns-in_err-inside
returns-in_err-inside c =
    let p = err_from_is_err_and c.from_residual-in_err-inside.result c.from_residual-in_err-inside.ensures.1 in
    rw p.1 (told_refusal struct_item _ _ _ p.2 (inr (
      _,
      any_read type_name _ _ _ _ _ c.in_ok-name.ensures.read,
      inr (_, c.in_ok-after.ensures.read, inl (word_refused (codes "type") _ _ c.in_err-inside.ensures.read c.in_err-inside.ensures.place)),
    )))

pub returns-in_err-ty : goal.returns-in_err-ty
returns-in_err-ty c =
    let p = err_from_is_err_and c.from_residual-in_err-ty.result c.from_residual-in_err-ty.ensures.1 in
    rw p.1 (told_as struct_item _ _ _ p.2 (second_refused type_name_part (mark_part 61 then word_part (codes "type") then type_part) _ _ _ (any_read type_name _ _ _ _ _ c.in_ok-name.ensures.read)
    (second_refused (mark_part 61) (word_part (codes "type") then type_part) _ _ _ c.in_ok-after.ensures.read
    (second_refused (word_part (codes "type")) type_part _ _ _ c.in_ok-inside.ensures.read (type_refused _ _ c.in_err-ty.ensures)))))

pub returns : goal.returns
returns c = struct_read _ _ _ _ _ _ _ _ _ _ c.in_ok-name.ensures.read c.in_ok-after.ensures.read c.in_ok-inside.ensures.read c.in_ok-ty.ensures
