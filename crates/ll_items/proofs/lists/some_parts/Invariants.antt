use Rattle.ll_parser.specs.GrammarItems.{node_part}
use Rattle.ll_items.specs.ItemParts.{metadata_part}
use Rattle.ll_items.proofs.ListsRead.{ListSoFar}
use Rattle.ll_items.proofs.NodeFacts.{metadata_is_part}
use Rattle.ll_items.proofs.lists.some_parts.Given as goal

abbrev pub invariant-loop-parts : goal.invariant-loop-parts
invariant-loop-parts l = ListSoFar node_part metadata_part metadata_is_part l.fn.names l.names l.tokens l.parts l.left

abbrev pub decreases-loop-parts : goal.decreases-loop-parts
decreases-loop-parts l = l.left
