use Rattle.ll_items.proofs.StartFacts.{small_one}
use Rattle.ll_items.proofs.laws.small_items_leave_one_rest.Goals as goal

pub returns : goal.returns
returns c = small_one
