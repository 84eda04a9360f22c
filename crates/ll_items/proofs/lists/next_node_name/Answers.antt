use Rattle.ll_parser.specs.GrammarAttributes.{node_name}
use Rattle.ll_parser.specs.Productions.{mark}
use Rattle.ll_items.proofs.ItemsRead.{two}
use Rattle.ll_items.proofs.lists.next_node_name.Goals as goal

pub returns-in_ok-node-in-Ok : goal.returns-in_ok-node-in-Ok
returns-in_ok-node-in-Ok c = two (mark 44) (node_name c.in_ok-node-in-Ok.node) _ _ _ c.in-Ok.ensures.read c.in_ok-node-in-Ok.ensures
