use Rattle.std.proofs.Common.{codes, inl, inr}
use Rattle.std.proofs.lemmas.Result.{err_from_is_err_and}
use Rattle.ll_parser.specs.GrammarAttributes.{attribute_group}
use Rattle.ll_parser.specs.Productions.{◌>>◌, mark, word}
use Rattle.ll_operands.proofs.Readings.{mark_refused}
use Rattle.ll_items.specs.ItemParts.{group_item, inside_group}
use Rattle.ll_items.proofs.ItemsRead.{stops_as, two}
use Rattle.ll_items.proofs.groups.skip_attribute_group.Goals as goal

pub returns-in_err-inside : goal.returns-in_err-inside
returns-in_err-inside c =
    let p = err_from_is_err_and c.from_residual-in_err-inside.result c.from_residual-in_err-inside.ensures.1 in
    rw p.1 (stops_as group_item _ _ _ p.2 (inr (
      _,
      c.in_ok-behind.ensures.read,
      inr (_, c.in_ok-after.ensures, inr (_, c.in_ok-opened.ensures.read, inl (mark_refused 123 _ _ c.in_err-inside.ensures.read c.in_err-inside.ensures.place))),
    )))

pub returns-in_err-rest : goal.returns-in_err-rest
returns-in_err-rest c =
    let p = err_from_is_err_and c.from_residual-in_err-rest.result c.from_residual-in_err-rest.ensures.1 in
    rw p.1 (stops_as group_item _ _ _ p.2 (inr (
      _,
      c.in_ok-behind.ensures.read,
      inr (
        _,
        c.in_ok-after.ensures,
        inr (_, c.in_ok-opened.ensures.read, inr (_, c.in_ok-inside.ensures.read, inr (_, c.skip_inside-end.ensures, mark_refused 125 _ _ c.in_err-rest.ensures.read c.in_err-rest.ensures.place))),
      ),
    )))

pub returns : goal.returns
returns c =
    two (word (codes "attributes")) (attribute_group >> mark 61 >> mark 123 >> inside_group >> mark 125) _ _ _ c.in_ok-behind.ensures.read
    (two attribute_group (mark 61 >> mark 123 >> inside_group >> mark 125) _ _ _ c.in_ok-after.ensures
    (two (mark 61) (mark 123 >> inside_group >> mark 125) _ _ _ c.in_ok-opened.ensures.read
    (two (mark 123) (inside_group >> mark 125) _ _ _ c.in_ok-inside.ensures.read
    (two inside_group (mark 125) _ _ _ c.skip_inside-end.ensures c.in_ok-rest.ensures.read))))
