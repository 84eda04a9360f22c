use Rattle.partner_rules.proofs.IdRoles.{partner-roles}
use Rattle.partner_rules.proofs.ids_have_their_roles.Goals as goal

pub returns : goal.returns
returns c = partner-roles
