use Rattle.inst_walk.proofs.RenamedBodies.{body-twice}
use Rattle.inst_walk.proofs.laws.body_renamed_twice.Goals as goal

pub returns : goal.returns
returns g c = λ f g' body. body-twice g.I.InstSet.renamed g.met.I.InstSet.renamed_twice f g' body
