use Rattle.std.proofs.Common.{[]}
use Rattle.ll_parser.specs.GrammarAttributes.{node_name}
use Rattle.ll_items.specs.ItemParts.{node_name_part}
use Rattle.ll_items.proofs.NodeFacts.{node_is_name}
use Rattle.ll_items.proofs.ListsRead.{ListSoFar}
use Rattle.ll_items.proofs.lists.some_node_names.Given as goal

abbrev pub invariant-loop-nodes : goal.invariant-loop-nodes
invariant-loop-nodes l = ListSoFar (λ _. node_name) node_name_part node_is_name [] [] l.tokens l.nodes l.left

abbrev pub decreases-loop-nodes : goal.decreases-loop-nodes
decreases-loop-nodes l = l.left
