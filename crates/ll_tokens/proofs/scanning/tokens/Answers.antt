use Rattle.ll_tokens.proofs.Places.{tokens_are_slices, places_rise}
use Rattle.ll_tokens.proofs.scanning.tokens.Goals as goal

pub returns-in-None-clause-slices : goal.returns-in-None-clause-slices
returns-in-None-clause-slices c = tokens_are_slices _ _ _ c.in-None.is c.in_ok-tokens.ensures

pub returns-in-None-clause-rising : goal.returns-in-None-clause-rising
returns-in-None-clause-rising c = places_rise _ _ _ c.in-None.is c.in_ok-tokens.ensures
