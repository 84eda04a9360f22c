use Rattle.std.proofs.Common.{ap, ap₂, sym, ◌∙◌, take}
use Rattle.std.specs.Option.{option_or}
use Rattle.spv_types.specs.Numbers.{at_id, constant_number}
use Rattle.spv_types.proofs.Fronts.{front-more, number-more}
use Rattle.spv_types.proofs.numbers.constant_numbers.Goals as goal

pub loop-inst-preserved : goal.loop-inst-preserved
loop-inst-preserved c =
    let i = c.loop-inst.inst-index in
    let insts = c.args.insts.now in
    let inst = c.inst-item.result in
    let more = front-more insts i inst c.loop-inst-test.true c.inst-item.is in
    λ id.
    c.in_ok-note.ensures id
    ∙ (ap₂ option_or (c.loop-inst.invariant id) (ap (at_id id) c.numbered.ensures)
    ∙ (sym (number-more (take i insts) inst id) ∙ ap (λ ys. constant_number ys id) (sym more)))
