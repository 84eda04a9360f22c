use Rattle.inst_walk.proofs.RenamedBodies.{body-alike}
use Rattle.inst_walk.proofs.laws.body_renamed_alike.Goals as goal

pub returns : goal.returns
returns g c = λ f g' body all. body-alike g.I.InstSet.renamed g.I.InstSet.outline g.met.I.InstSet.renamed_alike f g' body all
