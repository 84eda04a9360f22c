use Rattle.inst_walk.proofs.PlacesApart.{places-apart}
use Rattle.inst_walk.proofs.laws.places_are_apart.Goals as goal

pub returns : goal.returns
returns g c = places-apart g.I.Name.PartialEq.eq (record { same = g.met.I.InstSet.same_name; itself = g.met.I.Name.Eq.laws.refl })
