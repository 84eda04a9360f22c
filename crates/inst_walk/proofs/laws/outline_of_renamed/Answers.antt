use Rattle.inst_walk.proofs.RenamedBodies.{body-seen}
use Rattle.inst_walk.proofs.laws.outline_of_renamed.Goals as goal

pub returns : goal.returns
returns g c = λ f body. body-seen g.I.InstSet.renamed g.I.InstSet.outline g.met.I.InstSet.renamed_outline f body
