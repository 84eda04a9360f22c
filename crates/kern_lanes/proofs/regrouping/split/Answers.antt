use Rattle.std.proofs.Common.{ap, ◌∙◌, arith, length, ◌≡◌}
use Rattle.kern_lanes.specs.Widths.{bits_of}
use Rattle.kern_lanes.specs.Regrouping.{digits, part_count}
use Rattle.kern_lanes.proofs.DigitLemmas.{split_step, split_end}
use Rattle.kern_lanes.proofs.regrouping.split.Goals as goal

pub loop-part-preserved : goal.loop-part-preserved
loop-part-preserved c =
    let l = c.loop-part in
    record {
      base_is = l.invariant.base_is;
      kept = split_step (bits_of c.args.to) l.out l.part-index l.rest c.value_count-base.result c.args.a (omega arith) l.invariant.base_is l.invariant.kept;
    }

pub returns : goal.returns
returns c =
    let l = c.loop-part in
    let count : length l.out ≡ part_count c.args.from c.args.to = omega (arith, c.requires.places) in
    split_end (bits_of c.args.to) l.out l.part-index l.rest c.args.a (omega arith) l.invariant.kept
    ∙ ap (λ n. digits (bits_of c.args.to) n c.args.a) count
