use Rattle.ll_modules.proofs.ItemEnds.{ends_at_end, item_ends_other}
use Rattle.ll_modules.proofs.ItemsWhole.{item_right, item_whole}
use Rattle.ll_modules.proofs.laws.items_are_read_whole.Goals as goal

pub returns : goal.returns
returns c = record { right = item_right; whole = item_whole; further = item_ends_other; nothing = ends_at_end }
