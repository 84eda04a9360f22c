use Rattle.ll_places.proofs.Items.{once_items}
use Rattle.ll_places.proofs.laws.tokens_are_refused_once.Goals as goal

pub returns : goal.returns
returns c = once_items.refuses
