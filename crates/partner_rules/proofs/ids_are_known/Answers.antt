use Rattle.partner_rules.proofs.KnownIds.{partner-known}
use Rattle.partner_rules.proofs.ids_are_known.Goals as goal

pub returns : goal.returns
returns c = partner-known
