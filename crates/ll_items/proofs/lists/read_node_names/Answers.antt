use Rattle.std.proofs.Common.{[]}
use Rattle.std.proofs.lemmas.Result.{err_from_is_err_and}
use Rattle.ll_parser.specs.GrammarAttributes.{node_name}
use Rattle.ll_operands.proofs.Readings.{mark_refused}
use Rattle.ll_items.specs.ItemParts.{node_name_part, some_listed}
use Rattle.ll_items.proofs.ListsRead.{closed, none_listed, refused_at_end, without_names}
use Rattle.ll_items.proofs.NodeFacts.{node_is_name}
use Rattle.ll_items.proofs.lists.read_node_names.Goals as goal

pub returns-in-Ok : goal.returns-in-Ok
returns-in-Ok c = none_listed node_name _ _ _ c.new.ensures c.in-Ok.ensures.read

pub returns-in_err-rest : goal.returns-in_err-rest
returns-in_err-rest c =
    let p = err_from_is_err_and c.from_residual-in_err-rest.result c.from_residual-in_err-rest.ensures.1 in
    rw p.1 (refused_at_end (λ _. node_name) node_name_part node_is_name [] [] _ _ _ _ _ p.2 c.in_default.ensures.read (without_names (some_listed node_name) _ _ _ c.in_ok-nodes.ensures.0) c.in_ok-nodes.ensures.1 (mark_refused 125 _ _ c.in_err-rest.ensures.read c.in_err-rest.ensures.place))

pub returns : goal.returns
returns c = closed node_name _ _ _ _ c.in_ok-nodes.ensures.0 c.in_ok-rest.ensures.read
