use Rattle.inst_walk.proofs.OtherNames.{order-without, first_use-without, first_call-without}
use Rattle.inst_walk.proofs.laws.walks_without_others.Goals as goal

pub returns-clause-order : goal.returns-clause-order
returns-clause-order g c = order-without g.I.Name.PartialEq.eq

pub returns-clause-uses : goal.returns-clause-uses
returns-clause-uses g c = first_use-without g.I.Name.PartialEq.eq

pub returns-clause-calls : goal.returns-clause-calls
returns-clause-calls g c = first_call-without g.I.Name.PartialEq.eq
