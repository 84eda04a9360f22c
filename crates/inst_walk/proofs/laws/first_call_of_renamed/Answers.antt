use Rattle.std.proofs.Common.{refl, ◌∙◌, ap}
use Rattle.inst_walk.specs.Calls.{first_cycle_call}
use Rattle.inst_walk.proofs.Injective.{first_call-kept}
use Rattle.inst_walk.proofs.ListLemmas.{map-same}
use Rattle.inst_walk.proofs.laws.first_call_of_renamed.Goals as goal

pub returns : goal.returns
returns g c = λ f g' names bodies injective alike.
    first_call-kept g.I.Name.PartialEq.eq g.J.Name.PartialEq.eq
    (record { same = g.met.I.InstSet.same_name; itself = g.met.I.Name.Eq.laws.refl })
    (record { same = g.met.J.InstSet.same_name; itself = g.met.J.Name.Eq.laws.refl })
    (λ body. body) f g' names bodies injective alike
    ∙ ap (first_cycle_call g.I.Name.PartialEq.eq names) (map-same (λ body. body) bodies (λ body h. refl))
