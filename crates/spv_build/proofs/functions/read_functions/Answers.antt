use Rattle.std.proofs.Common.{◌+◌, ap, ap₂, sym, ◌∙◌, drop}
use Rattle.std.proofs.lemmas.List.{at_drop_more, at_drop_all}
use Rattle.spv_names.specs.Uses.{has_wide}
use Rattle.spv_build.specs.Functions.{behind_part, behind_inst, behind_insts, read_functions}
use Rattle.spv_build.proofs.functions.read_functions.Goals as goal

pub loop-inst-preserved : goal.loop-inst-preserved
loop-inst-preserved c =
    let i = c.loop-inst.inst-index in
    let wide = has_wide c.args.insts.now in
    let section = c.args.section.now in
    let inst = c.inst-item.result in
    let so_far = c.loop-inst.so_far in
    let behind = c.in_ok-read_part.ensures ∙ ap₂ (λ p w. behind_part p w so_far inst) c.part_of.ensures c.is_wide-wide.ensures in
    ap (λ s. behind_insts wide s (drop (i + 1) section)) behind
    ∙ (ap (λ x. behind_insts wide (behind_inst wide so_far x) (drop (i + 1) section)) c.inst-item.is
    ∙ (sym (at_drop_more (behind_insts wide so_far) section i inst c.loop-inst-test.true) ∙ c.loop-inst.invariant))

pub returns : goal.returns
unfolding read_functions
returns c =
    sym (at_drop_all (behind_insts (has_wide c.args.insts.now) c.loop-inst.so_far) c.args.section.now c.loop-inst.inst-index c.loop-inst-test.false)
    ∙ c.loop-inst.invariant
