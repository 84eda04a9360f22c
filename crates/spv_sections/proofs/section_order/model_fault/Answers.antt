use Rattle.std.proofs.Common.{◌≡◌, ap, ap₂, sym, ◌∙◌, nat_eq}
use Rattle.std.specs.Prelude.{not, ◌&&◌}
use Rattle.std.specs.List.{list_any}
use Rattle.std.proofs.lemmas.List.{take_all}
use Rattle.rule_order.specs.Breaks.{least}
use Rattle.spv_sections.specs.Places.{places_where, told}
use Rattle.spv_sections.specs.SectionOrder.{gives_again, is_model}
use Rattle.spv_sections.proofs.Scans.{scan-more, any-more, least-told}
use Rattle.spv_sections.proofs.section_order.model_fault.Goals as goal

pub loop-inst-preserved : goal.loop-inst-preserved
loop-inst-preserved c =
    let i = c.loop-inst.inst-index in
    let insts = c.args.insts.now in
    let inst = c.inst-item.result in
    let is : nat_eq inst.op c.number.result ≡ is_model inst = ap (nat_eq inst.op) c.number.ensures in
    record {
      told =
          c.told-least.ensures
          ∙ scan-more gives_again insts i inst c.loop-inst-test.true c.inst-item.is c.loop-inst.least (c.loop-inst.given && nat_eq inst.op c.number.result)
          (ap₂ (λ x y. x && y) c.loop-inst.invariant.given is) c.loop-inst.invariant.told;
      given = any-more is_model insts i inst c.loop-inst-test.true c.inst-item.is c.loop-inst.given (nat_eq inst.op c.number.result) c.loop-inst.invariant.given is;
    }

pub returns : goal.returns
returns c =
    let insts = c.args.insts.now in
    let all = take_all c.loop-inst.inst-index insts c.loop-inst-test.false in
    c.told.ensures
    ∙ (ap₂ (λ o b. told o (not b) c.args.words) (c.loop-inst.invariant.told ∙ ap (λ xs. least (places_where gives_again xs)) all) (c.loop-inst.invariant.given ∙ ap (list_any is_model) all)
    ∙ sym (least-told (places_where gives_again insts) (not (list_any is_model insts)) c.args.words))
