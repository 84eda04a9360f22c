use Rattle.std.proofs.Common.{sym, ◌∙◌, arith}
use Rattle.kern_types.proofs.StructLemmas.{left_of-start, left_of-none, left_of-next, left_of-done}
use Rattle.kern_types.proofs.layout.struct_layout.Goals as goal

pub loop-id-init : goal.loop-id-init
loop-id-init c =
    record {
      bounded = omega arith;
      aligned = omega arith;
      align_bounded = omega arith;
      left = left_of-start c.args.entries.now c.args.packed c.args.members.now;
    }

pub returns-in_err-layout_in-clause-exact : goal.returns-in_err-layout_in-clause-exact
returns-in_err-layout_in-clause-exact c =
    let l = c.loop-id in
    let none = left_of-none c.args.entries.now c.args.packed l.end l.align c.args.members.now l.id-index (record { 0 = 0 }) c.loop-id-test.true (sym c.layout_in.ensures.value ∙ c.in_err-layout_in.was) in
    c.from_residual.ensures ∙ sym none ∙ l.invariant.left

pub loop-id-preserved : goal.loop-id-preserved
loop-id-preserved c =
    let l = c.loop-id in
    let member = c.as_placed-member in
    let kept = member.ensures.kept in
    record {
      bounded = omega arith;
      aligned = omega arith;
      align_bounded = omega (arith, kept.align_bounded);
      left = left_of-next c.args.entries.now c.args.packed l.end l.align c.end_behind-end.result c.max-align.result c.args.members.now l.id-index (record { 0 = 0 }) c.in_ok-layout_in.field-0 member.result _ c.loop-id-test.true c.in_ok-layout_in.ensures.value member.ensures.placed c.end_behind-end.ensures c.max-align.ensures l.invariant.left;
    }

pub returns-clause-exact : goal.returns-clause-exact
returns-clause-exact c =
    let l = c.loop-id in
    left_of-done c.args.entries.now c.args.packed l.end l.align c.next_multiple_of.result c.capped_size.result c.args.members.now l.id-index _ c.loop-id-test.false l.invariant.aligned c.next_multiple_of.ensures.value c.capped_size.ensures l.invariant.left
