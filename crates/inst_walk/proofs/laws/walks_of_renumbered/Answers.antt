use Rattle.std.proofs.Common.{◌∙◌, ap}
use Rattle.inst_walk.specs.Body.{body_outline, body_names, block_preorder}
use Rattle.inst_walk.specs.RenamedBody.{label_names, value_names}
use Rattle.inst_walk.specs.Uses.{first_use_break}
use Rattle.inst_walk.proofs.Injective.{IsIdentity, order-kept, first_use-kept, injective-within, label_names-within, value_names-within}
use Rattle.inst_walk.proofs.RenamedBodies.{body-seen}
use Rattle.inst_walk.proofs.laws.walks_of_renumbered.Goals as goal

pub returns-clause-order : goal.returns-clause-order
returns-clause-order g c = λ f body injective.
    let names : IsIdentity g.I.Name.PartialEq.eq = record { same = g.met.I.InstSet.same_name; itself = g.met.I.Name.Eq.laws.refl } in
    ap (block_preorder g.I.Name.PartialEq.eq) (body-seen g.I.InstSet.renamed g.I.InstSet.outline g.met.I.InstSet.renamed_outline f body)
    ∙ order-kept g.I.Name.PartialEq.eq g.I.Name.PartialEq.eq names names f (body_outline g.I.InstSet.outline body)
    (injective-within f (body_names (body_outline g.I.InstSet.outline body)) (label_names (body_outline g.I.InstSet.outline body)) (label_names-within (body_outline g.I.InstSet.outline body)) injective)

pub returns-clause-uses : goal.returns-clause-uses
returns-clause-uses g c = λ f body order injective.
    let names : IsIdentity g.I.Name.PartialEq.eq = record { same = g.met.I.InstSet.same_name; itself = g.met.I.Name.Eq.laws.refl } in
    ap (λ b. first_use_break g.I.Name.PartialEq.eq b order) (body-seen g.I.InstSet.renamed g.I.InstSet.outline g.met.I.InstSet.renamed_outline f body)
    ∙ first_use-kept g.I.Name.PartialEq.eq g.I.Name.PartialEq.eq names names f (body_outline g.I.InstSet.outline body) order
    (injective-within f (body_names (body_outline g.I.InstSet.outline body)) (label_names (body_outline g.I.InstSet.outline body)) (label_names-within (body_outline g.I.InstSet.outline body)) injective)
    (injective-within f (body_names (body_outline g.I.InstSet.outline body)) (value_names (body_outline g.I.InstSet.outline body)) (value_names-within (body_outline g.I.InstSet.outline body)) injective)
