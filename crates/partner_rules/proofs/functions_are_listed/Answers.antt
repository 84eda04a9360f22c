use Rattle.partner_rules.proofs.FunctionParts.{partner-listed}
use Rattle.partner_rules.proofs.functions_are_listed.Goals as goal

pub returns : goal.returns
returns c = partner-listed
