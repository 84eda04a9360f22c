use Rattle.std.proofs.Common.{arith}
use Rattle.kern_lanes.specs.Widths.{bits_of}
use Rattle.kern_lanes.proofs.DigitLemmas.{join_step, join_end, joined-lt, scale_step}
use Rattle.kern_lanes.proofs.regrouping.join.Goals as goal

pub overflow_add-number : goal.overflow_add-number
overflow_add-number c =
    let l = c.loop-part in
    let whole = joined-lt c.args.from c.args.to c.args.parts.now c.requires.lanes c.requires.narrower c.requires.count in
    let step = join_step (bits_of c.args.to) c.args.parts.now l.part-index l.number l.scale c.from.result c.value_count-base.result c.loop-part-test.true c.from.ensures l.invariant.base_is l.invariant.kept in
    record { fits = omega (arith, whole, step) }

pub loop-part-preserved : goal.loop-part-preserved
loop-part-preserved c =
    let l = c.loop-part in
    record {
      base_is = l.invariant.base_is;
      scale_is = scale_step (bits_of c.args.to) l.part-index l.scale c.value_count-base.result l.invariant.scale_is l.invariant.base_is;
      kept = join_step (bits_of c.args.to) c.args.parts.now l.part-index l.number l.scale c.from.result c.value_count-base.result c.loop-part-test.true c.from.ensures l.invariant.base_is l.invariant.kept;
    }

pub overflow_cast-result : goal.overflow_cast-result
overflow_cast-result c =
    let l = c.loop-part in
    let whole = joined-lt c.args.from c.args.to c.args.parts.now c.requires.lanes c.requires.narrower c.requires.count in
    record { fits = omega (arith, whole, join_end (bits_of c.args.to) c.args.parts.now l.part-index l.number l.scale c.loop-part-test.false l.invariant.kept) }

pub returns : goal.returns
returns c =
    let l = c.loop-part in
    join_end (bits_of c.args.to) c.args.parts.now l.part-index l.number l.scale c.loop-part-test.false l.invariant.kept
