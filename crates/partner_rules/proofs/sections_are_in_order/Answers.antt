use Rattle.partner_rules.proofs.RisingRanks.{partner-ordered}
use Rattle.partner_rules.proofs.sections_are_in_order.Goals as goal

pub returns : goal.returns
returns c = partner-ordered
