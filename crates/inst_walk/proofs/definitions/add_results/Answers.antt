use Rattle.std.proofs.Common.{sym, ◌∙◌, ap, ◌++◌, rules}
use Rattle.std.specs.Option.{option_to_list}
use Rattle.std.proofs.lemmas.List.{append-nil}
use Rattle.inst_walk.proofs.CallsLemmas.{filter_map-one-more}
use Rattle.inst_walk.proofs.Collected.{results-added}
use Rattle.inst_walk.proofs.definitions.add_results.Goals as goal
use Rattle.inst_walk.proofs.definitions.add_results.Goals.{in-Some+in_ok-push, in_default}

pub loop-inst-preserved : goal.loop-inst-preserved
loop-inst-preserved g c =
    filter_map-one-more (λ inst. (g.I.InstSet.outline inst).defines) c.args.insts.now c.loop-inst.inst-index c.inst-item.result c.args.names.now.items c.loop-inst.names.items c.match-result.names.items
    (search rules) c.inst-item.is c.loop-inst.invariant
    (elim c.match-result.branch [
      | in-Some+in_ok-push w ↦ ap (λ v. v.items) w.names-is ∙ w.in_ok-push.ensures.items ∙ ap (λ o. c.loop-inst.names.items ++ option_to_list o) (sym w.in-Some.is ∙ c.result.ensures)
      | in_default w ↦ ap (λ v. v.items) w.names-is ∙ sym (append-nil c.loop-inst.names.items) ∙ ap (λ o. c.loop-inst.names.items ++ option_to_list o) (sym w.in_default.is ∙ c.result.ensures)
    ])

pub returns : goal.returns
returns g c =
    results-added g.I.InstSet.outline c.args.insts.now c.loop-inst.inst-index c.args.names.now.items c.loop-inst.names.items c.loop-inst-test.false c.loop-inst.invariant
