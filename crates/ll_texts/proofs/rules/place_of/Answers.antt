use Rattle.ll_texts.proofs.RuleFacts.{place_is}
use Rattle.ll_texts.proofs.rules.place_of.Goals as goal

pub returns : goal.returns
returns c = place_is _ _ _ _ _ _ c.saturating_sub-skipped.ensures c.from.ensures c.first_place.ensures
