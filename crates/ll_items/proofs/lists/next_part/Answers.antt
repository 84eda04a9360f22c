use Rattle.ll_parser.specs.GrammarItems.{node_part}
use Rattle.ll_parser.specs.Productions.{mark}
use Rattle.ll_items.specs.ItemParts.{next_part}
use Rattle.ll_items.proofs.ItemsRead.{two}
use Rattle.ll_operands.proofs.Readings.{mark_then_read}
use Rattle.ll_items.proofs.lists.next_part.Goals as goal

pub returns-in_ok-part-in-Ok : goal.returns-in_ok-part-in-Ok
returns-in_ok-part-in-Ok c =
    mark_then_read 44 node_part next_part _ _ _ _ _ _ _ (λ names m d. two (mark 44) (node_part names c.in_ok-part-in-Ok.part) _ _ _ m d) c.in-Ok.ensures.read c.in_ok-part-in-Ok.ensures
