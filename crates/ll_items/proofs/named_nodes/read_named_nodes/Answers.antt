use Rattle.std.proofs.Common.{inl, inr}
use Rattle.std.proofs.lemmas.Result.{err_from_is_err_and}
use Rattle.ll_tokens.specs.declared.kinds.TokenKind.TheVariants.{MdName}
use Rattle.ll_operands.specs.Parts.{mark_part, ◌then◌}
use Rattle.ll_operands.proofs.Readings.{first_refused, mark_refused, second_refused, told_as, told_refusal}
use Rattle.ll_items.specs.ItemParts.{braced_part, kind_part, named_item, node_name_part, open_part}
use Rattle.ll_items.proofs.ItemsRead.{any_token, named_read}
use Rattle.ll_items.proofs.named_nodes.read_named_nodes.Goals as goal

pub returns-in_err-opened : goal.returns-in_err-opened
returns-in_err-opened c =
    let p = err_from_is_err_and c.from_residual-in_err-opened.result c.from_residual-in_err-opened.ensures.1 in
    rw p.1 (told_refusal named_item _ _ _ p.2 (inr (_, any_token _ _ _ _ c.in_ok-name.ensures, inr (_, c.in_ok-after.ensures.read, inl c.in_err-opened.ensures))))

pub returns-in_err-nodes : goal.returns-in_err-nodes
returns-in_err-nodes c =
    let p = err_from_is_err_and c.from_residual-in_err-nodes.result c.from_residual-in_err-nodes.ensures.1 in
    rw p.1 (told_as named_item _ _ _ p.2 (second_refused (kind_part MdName) (mark_part 61 then open_part then braced_part node_name_part) _ _ _ (any_token _ _ _ _ c.in_ok-name.ensures)
    (second_refused (mark_part 61) (open_part then braced_part node_name_part) _ _ _ c.in_ok-after.ensures.read
    (second_refused open_part (braced_part node_name_part) _ _ _ c.in_ok-opened.ensures c.in_err-nodes.ensures))))

pub returns : goal.returns
returns c = named_read _ _ _ _ _ _ _ c.in_ok-name.ensures c.in_ok-after.ensures.read c.in_ok-opened.ensures c.in_ok-nodes.ensures
