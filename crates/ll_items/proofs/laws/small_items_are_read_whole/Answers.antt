use Rattle.ll_items.proofs.StartFacts.{small_right, small_whole}
use Rattle.ll_items.proofs.laws.small_items_are_read_whole.Goals as goal

pub returns : goal.returns
returns c = record { right = small_right; whole = small_whole }
