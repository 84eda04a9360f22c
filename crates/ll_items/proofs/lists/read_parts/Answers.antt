use Rattle.std.proofs.lemmas.Result.{err_from_is_err_and}
use Rattle.ll_parser.specs.GrammarItems.{node_part}
use Rattle.ll_operands.proofs.Readings.{mark_refused}
use Rattle.ll_items.specs.ItemParts.{metadata_part}
use Rattle.ll_items.proofs.ListsRead.{braced_read, none_read, refused_at_end}
use Rattle.ll_items.proofs.NodeFacts.{metadata_is_part}
use Rattle.ll_items.proofs.lists.read_parts.Goals as goal

pub returns-in-Ok : goal.returns-in-Ok
returns-in-Ok c = none_read node_part metadata_part metadata_is_part _ _ _ _ c.new.ensures c.in-Ok.ensures.read

pub returns-in_err-rest : goal.returns-in_err-rest
returns-in_err-rest c =
    let p = err_from_is_err_and c.from_residual-in_err-rest.result c.from_residual-in_err-rest.ensures.1 in
    rw p.1 (refused_at_end node_part metadata_part metadata_is_part _ _ _ _ _ _ _ p.2 c.in_default.ensures.read c.in_ok-parts.ensures.0 c.in_ok-parts.ensures.1 (mark_refused 125 _ _ c.in_err-rest.ensures.read c.in_err-rest.ensures.place))

pub returns : goal.returns
returns c = braced_read node_part metadata_part metadata_is_part _ _ _ _ _ _ c.in_ok-parts.ensures.0 c.in_ok-rest.ensures.read
