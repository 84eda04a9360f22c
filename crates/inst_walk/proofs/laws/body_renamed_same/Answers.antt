use Rattle.inst_walk.proofs.RenamedBodies.{body-kept}
use Rattle.inst_walk.proofs.laws.body_renamed_same.Goals as goal

pub returns : goal.returns
returns g c = λ f body all. body-kept g.I.InstSet.renamed g.I.InstSet.outline g.met.I.InstSet.renamed_alike g.met.I.InstSet.renamed_same f body all
