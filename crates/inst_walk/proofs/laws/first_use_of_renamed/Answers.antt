use Rattle.inst_walk.proofs.Injective.{first_use-kept}
use Rattle.inst_walk.proofs.laws.first_use_of_renamed.Goals as goal

pub returns : goal.returns
returns g c = λ f body order labels values.
    first_use-kept g.I.Name.PartialEq.eq g.J.Name.PartialEq.eq
    (record { same = g.met.I.InstSet.same_name; itself = g.met.I.Name.Eq.laws.refl })
    (record { same = g.met.J.InstSet.same_name; itself = g.met.J.Name.Eq.laws.refl })
    f body order labels values
