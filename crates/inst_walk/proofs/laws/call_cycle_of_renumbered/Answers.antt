use Rattle.std.proofs.Common.{◌∙◌, ap}
use Rattle.std.specs.Prelude.{map}
use Rattle.inst_walk.specs.Body.{body_outline, body_renamed}
use Rattle.inst_walk.specs.Calls.{first_cycle_call}
use Rattle.inst_walk.specs.RenamedBody.{body_outline_renamed}
use Rattle.inst_walk.proofs.BlockGraph.{map-map}
use Rattle.inst_walk.proofs.Injective.{IsIdentity, first_call-kept}
use Rattle.inst_walk.proofs.ListLemmas.{map-alike}
use Rattle.inst_walk.proofs.RenamedBodies.{body-seen}
use Rattle.inst_walk.proofs.laws.call_cycle_of_renumbered.Goals as goal

pub returns : goal.returns
returns g c = λ f g' names bodies injective alike.
    let identity : IsIdentity g.I.Name.PartialEq.eq = record { same = g.met.I.InstSet.same_name; itself = g.met.I.Name.Eq.laws.refl } in
    ap (first_cycle_call g.I.Name.PartialEq.eq (map g' names))
    (map-map (body_outline g.I.InstSet.outline) (λ body. body_renamed g.I.InstSet.renamed (f body) body) bodies
    ∙ map-alike (λ body. body_outline g.I.InstSet.outline (body_renamed g.I.InstSet.renamed (f body) body)) (λ body. body_outline_renamed (f body) (body_outline g.I.InstSet.outline body)) bodies
    (λ body h. body-seen g.I.InstSet.renamed g.I.InstSet.outline g.met.I.InstSet.renamed_outline (f body) body))
    ∙ first_call-kept g.I.Name.PartialEq.eq g.I.Name.PartialEq.eq identity identity (body_outline g.I.InstSet.outline) f g' names bodies injective alike
