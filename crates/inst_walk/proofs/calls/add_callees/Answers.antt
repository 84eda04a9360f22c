use Rattle.std.proofs.Common.{sym, ◌∙◌, ap, ◌++◌, rules}
use Rattle.std.specs.Option.{option_and_then, option_to_list}
use Rattle.std.proofs.lemmas.List.{append-nil}
use Rattle.inst_walk.specs.Places.{place_of}
use Rattle.inst_walk.proofs.CallsLemmas.{filter_map-one-more, callees-added}
use Rattle.inst_walk.proofs.calls.add_callees.Goals as goal
use Rattle.inst_walk.proofs.calls.add_callees.Goals.{in-Some+in_ok-push, in_default}

pub loop-inst-preserved : goal.loop-inst-preserved
loop-inst-preserved g c =
    filter_map-one-more (λ inst. option_and_then (place_of g.I.Name.PartialEq.eq c.args.functions.now) (g.I.InstSet.outline inst).calls) c.args.insts.now c.loop-inst.inst-index c.inst-item.result c.args.row.now c.loop-inst.row c.match-callee_place.row
    (search rules) c.inst-item.is c.loop-inst.invariant
    (elim c.match-callee_place.branch [
      | in-Some+in_ok-push w ↦ w.row-is ∙ w.in_ok-push.ensures.ok ∙ ap (λ o. c.loop-inst.row ++ option_to_list o) (sym w.in-Some.is ∙ c.callee_place.ensures)
      | in_default w ↦ w.row-is ∙ sym (append-nil c.loop-inst.row) ∙ ap (λ o. c.loop-inst.row ++ option_to_list o) (sym w.in_default.is ∙ c.callee_place.ensures)
    ])

pub returns : goal.returns
returns g c =
    callees-added g.I.Name.PartialEq.eq g.I.InstSet.outline c.args.functions.now c.args.insts.now c.loop-inst.inst-index c.args.row.now c.loop-inst.row c.loop-inst-test.false c.loop-inst.invariant
