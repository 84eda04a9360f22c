use Rattle.ll_items.specs.declared.small_items.SmallItem.TheVariants as small
use Rattle.ll_items.proofs.SmallRead.{pure_read}
use Rattle.ll_items.proofs.WholeFacts.{group_dropped}
use Rattle.ll_items.proofs.small_items.read_started.Goals as goal

pub returns-in_ok-rest-in-Group : goal.returns-in_ok-rest-in-Group
returns-in_ok-rest-in-Group c = pure_read _ small.Dropped _ _ (λ longer. group_dropped _ _ c.in_ok-rest-in-Group.ensures)
