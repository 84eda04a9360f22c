use Rattle.std.proofs.Common.{◌≡◌, ◌<◌, ◌-◌, get_or, sym, ap, ◌∙◌, arith, length-take, get_or-take}
use Rattle.kern_types.specs.Layouts.{layout_in}
use Rattle.kern_types.proofs.OffsetLemmas.{start_of-none, start_of-next, start_of-here}
use Rattle.kern_types.proofs.steps.member_start.Goals as goal

pub returns-in_err-layout_in : goal.returns-in_err-layout_in
returns-in_err-layout_in c =
    let l = c.loop-id in
    let first : l.id-index < c.args.index = omega (arith, c.loop-id-test.true, length-take c.args.index c.args.members.now) in
    let here = ap (layout_in c.args.entries.now) (get_or-take c.args.index c.args.members.now l.id-index (record { 0 = 0 }) first) in
    c.from_residual.ensures
    ∙ sym (start_of-none c.args.entries.now c.args.packed l.end (c.args.index - l.id-index) c.args.members.now l.id-index (record { 0 = 0 }) (omega (arith, c.requires.index)) (sym here ∙ sym c.layout_in.ensures.value ∙ c.in_err-layout_in.was))
    ∙ l.invariant.left

pub loop-id-preserved : goal.loop-id-preserved
loop-id-preserved c =
    let l = c.loop-id in
    let member = c.as_placed in
    let first : l.id-index < c.args.index = omega (arith, c.loop-id-test.true, length-take c.args.index c.args.members.now) in
    let here = ap (layout_in c.args.entries.now) (get_or-take c.args.index c.args.members.now l.id-index (record { 0 = 0 }) first) in
    record {
      bounded = omega (arith, c.end_behind-end.ensures);
      left = start_of-next c.args.entries.now c.args.packed l.end c.end_behind-end.result c.args.index c.args.members.now l.id-index (record { 0 = 0 }) c.in_ok-layout_in.field-0 member.result _ (omega (arith, c.requires.index)) first (c.in_ok-layout_in.ensures.value ∙ here) member.ensures.placed c.end_behind-end.ensures l.invariant.left;
    }

pub returns-in_err-layout_in-2 : goal.returns-in_err-layout_in-2
returns-in_err-layout_in-2 c =
    let l = c.loop-id in
    let last : l.id-index ≡ c.args.index = omega (arith, c.loop-id-test.false, length-take c.args.index c.args.members.now, c.requires.index, c.loop-id.auto.id-index-end) in
    let here = ap (λ i. layout_in c.args.entries.now (get_or c.args.members.now i (record { 0 = 0 }))) last in
    c.from_residual-in_err-layout_in-2.ensures
    ∙ sym (start_of-none c.args.entries.now c.args.packed l.end (c.args.index - l.id-index) c.args.members.now l.id-index (record { 0 = 0 }) (omega (arith, c.requires.index)) (here ∙ sym c.layout_in-2.ensures.value ∙ c.in_err-layout_in-2.was))
    ∙ l.invariant.left

pub returns : goal.returns
returns c =
    let l = c.loop-id in
    let last : l.id-index ≡ c.args.index = omega (arith, c.loop-id-test.false, length-take c.args.index c.args.members.now, c.requires.index, c.loop-id.auto.id-index-end) in
    let here = ap (λ i. layout_in c.args.entries.now (get_or c.args.members.now i (record { 0 = 0 }))) last in
    start_of-here c.args.entries.now c.args.packed l.end c.next_multiple_of.result c.capped_size.result c.args.index c.args.members.now l.id-index (record { 0 = 0 }) c.in_ok-layout_in-2.field-0 c.as_placed-member.result _ (omega (arith, c.requires.index)) last (c.in_ok-layout_in-2.ensures.value ∙ sym here) c.as_placed-member.ensures.placed c.next_multiple_of.ensures.value c.capped_size.ensures l.invariant.left c.requires.sized
