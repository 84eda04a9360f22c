use Rattle.partner_rules.proofs.OnceDefined.{partner-once}
use Rattle.partner_rules.proofs.ids_are_defined_once.Goals as goal

pub returns : goal.returns
returns c = partner-once
