use Rattle.partner_rules.proofs.NoFault.{partner-unbroken}
use Rattle.partner_rules.proofs.names_break_no_rule.Goals as goal

pub returns : goal.returns
returns c = partner-unbroken
