use Rattle.std.proofs.Common.{[], refl}
use Rattle.std.proofs.lemmas.Result.{err_from_is_err_and}
use Rattle.ll_parser.specs.GrammarAttributes.{node_name}
use Rattle.ll_items.specs.ItemParts.{next_node, node_name_part}
use Rattle.ll_items.proofs.ListsRead.{fewer_items, list_begun, list_stops, more_items, without_names}
use Rattle.ll_items.proofs.NodeFacts.{node_is_name, node_shortens, nodes_listed}
use Rattle.ll_items.proofs.lists.some_node_names.Goals as goal

pub loop-nodes-init : goal.loop-nodes-init
loop-nodes-init c =
    list_begun (λ _. node_name) node_name_part node_is_name node_shortens [] [] _ _ _ _ _ _ (without_names node_name _ _ _ c.in_ok-first.ensures) c.in_ok-push.ensures.ok c.new-nodes.ensures refl

pub returns-in_err-node : goal.returns-in_err-node
returns-in_err-node c =
    let p = err_from_is_err_and c.from_residual-in_err-node.result c.from_residual-in_err-node.ensures.1 in
    rw p.1 (list_stops (λ _. node_name) node_name_part node_is_name [] [] _ _ _ _ _ _ p.2 c.loop-nodes.invariant c.last.ensures c.in_err-node.ensures)

pub loop-nodes-smaller : goal.loop-nodes-smaller
loop-nodes-smaller c =
    let one = rw c.in-Some.is at c.in_ok-node.ensures in
    fewer_items (λ _. node_name) node_name_part node_is_name node_shortens [] [] [] _ _ _ _ _ _ c.loop-nodes.invariant c.last.ensures (without_names next_node _ _ _ one)

pub loop-nodes-preserved : goal.loop-nodes-preserved
loop-nodes-preserved c =
    let one = rw c.in-Some.is at c.in_ok-node.ensures in
    more_items (λ _. node_name) node_name_part node_is_name node_shortens [] [] [] _ _ _ _ _ _ _ _ c.loop-nodes.invariant c.last.ensures (without_names next_node _ _ _ one) c.in_ok-push-2.ensures.ok refl

pub returns : goal.returns
returns c =
    let none = rw c.in_default.is at c.in_ok-node.ensures in
    nodes_listed _ _ _ _ _ c.loop-nodes.invariant c.last.ensures c.last-2.ensures none
