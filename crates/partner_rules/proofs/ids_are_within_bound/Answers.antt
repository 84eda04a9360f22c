use Rattle.partner_rules.proofs.WithinBound.{partner-bounded}
use Rattle.partner_rules.proofs.ids_are_within_bound.Goals as goal

pub returns : goal.returns
returns c = partner-bounded
