use Rattle.inst_walk.proofs.Injective.{order-kept}
use Rattle.inst_walk.proofs.laws.order_of_renamed.Goals as goal

pub returns : goal.returns
returns g c = λ f body injective.
    order-kept g.I.Name.PartialEq.eq g.J.Name.PartialEq.eq
    (record { same = g.met.I.InstSet.same_name; itself = g.met.I.Name.Eq.laws.refl })
    (record { same = g.met.J.InstSet.same_name; itself = g.met.J.Name.Eq.laws.refl })
    f body injective
