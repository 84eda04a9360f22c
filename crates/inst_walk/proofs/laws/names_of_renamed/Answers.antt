use Rattle.inst_walk.proofs.RenamedBodies.{body-names}
use Rattle.inst_walk.proofs.laws.names_of_renamed.Goals as goal

pub returns : goal.returns
returns g c = λ f body. body-names f body
