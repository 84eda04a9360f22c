use Rattle.std.proofs.Common.{codes, inl, inr}
use Rattle.std.proofs.lemmas.Result.{err_from_is_err_and}
use Rattle.ll_parser.specs.Productions.{word}
use Rattle.ll_attributes.specs.Lists.{maybe_here}
use Rattle.ll_operands.specs.Parts.{mark_part, ◌then◌}
use Rattle.ll_operands.proofs.Readings.{mark_refused, second_refused, told_as, told_refusal}
use Rattle.ll_items.specs.ItemParts.{braced_part, free, metadata_part, node_item, node_name_part, open_part}
use Rattle.ll_items.proofs.ItemsRead.{node_read}
use Rattle.ll_items.proofs.nodes.read_node.Goals as goal

pub returns-in_err-opened : goal.returns-in_err-opened
returns-in_err-opened c =
    let p = err_from_is_err_and c.from_residual-in_err-opened.result c.from_residual-in_err-opened.ensures.1 in
    rw p.1 (told_refusal node_item _ _ _ p.2 (inr (_, (c.in_ok-name.name, c.in_ok-name.ensures), inr (_, c.in_ok-after.ensures.read, inr (_, c.skip_word_if_there-inside.ensures, inl c.in_err-opened.ensures)))))

pub returns-in_err-parts : goal.returns-in_err-parts
returns-in_err-parts c =
    let p = err_from_is_err_and c.from_residual-in_err-parts.result c.from_residual-in_err-parts.ensures.1 in
    rw p.1 (told_as node_item _ _ _ p.2 (second_refused node_name_part (mark_part 61 then free (maybe_here (word (codes "distinct"))) then open_part then braced_part metadata_part) _ _ _ (c.in_ok-name.name, c.in_ok-name.ensures)
    (second_refused (mark_part 61) (free (maybe_here (word (codes "distinct"))) then open_part then braced_part metadata_part) _ _ _ c.in_ok-after.ensures.read
    (second_refused (free (maybe_here (word (codes "distinct")))) (open_part then braced_part metadata_part) _ _ _ c.skip_word_if_there-inside.ensures
    (second_refused open_part (braced_part metadata_part) _ _ _ c.in_ok-opened.ensures c.in_err-parts.ensures)))))

pub returns : goal.returns
returns c = node_read _ _ _ _ _ _ _ _ _ _ c.in_ok-name.ensures c.in_ok-after.ensures.read c.skip_word_if_there-inside.ensures c.in_ok-opened.ensures c.in_ok-parts.ensures
