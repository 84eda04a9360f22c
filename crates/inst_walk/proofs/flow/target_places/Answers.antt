use Rattle.std.proofs.Common.{rules, ◌∙◌, ap, sym, ◌++◌}
use Rattle.std.specs.Option.{option_to_list}
use Rattle.std.proofs.lemmas.List.{append-nil}
use Rattle.inst_walk.specs.Places.{place_of}
use Rattle.inst_walk.proofs.BlockGraph.{filter_map-more}
use Rattle.inst_walk.proofs.flow.target_places.Goals as goal
use Rattle.inst_walk.proofs.flow.target_places.Goals.{in-Some+in_ok-push, in_default}

pub loop-i-preserved : goal.loop-i-preserved
loop-i-preserved g c = filter_map-more (place_of g.I.Name.PartialEq.eq c.args.names.now) (g.I.InstSet.outline c.args.inst.now).leads_to c.loop-i.i c.target_at.result c.loop-i.row c.match-place.row (search rules) c.target_at.ensures c.loop-i.invariant
    (elim c.match-place.branch [ in-Some+in_ok-push w ↦ w.row-is ∙ w.in_ok-push.ensures.ok ∙ ap (λ o. c.loop-i.row ++ option_to_list o) (sym w.in-Some.is ∙ c.place.ensures) | in_default w ↦ w.row-is ∙ sym (append-nil c.loop-i.row) ∙ ap (λ o. c.loop-i.row ++ option_to_list o) (sym w.in_default.is ∙ c.place.ensures) ])
