use Rattle.ll_items.proofs.StartFacts.{none_starts, small_none}
use Rattle.ll_items.proofs.laws.refused_small_items_derive_nothing.Goals as goal

pub returns : goal.returns
returns c = record { refused = small_none; absent = none_starts }
