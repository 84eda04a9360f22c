use Rattle.partner_rules.proofs.EarlierIds.{partner-earlier}
use Rattle.partner_rules.proofs.declarations_use_earlier_ids.Goals as goal

pub returns : goal.returns
returns c = partner-earlier
