use Rattle.std.proofs.Common.{◌<◌, nat_eq, length, arith}
use Rattle.inst_walk.specs.Renaming.{renamed_name}
use Rattle.spv_module.proofs.RenamedLemmas.{one_more}
use Rattle.spv_module.proofs.inst_set.rename_ids.Goals as goal

pub loop-i-preserved : goal.loop-i-preserved
loop-i-preserved c =
    let f = renamed_name nat_eq c.args.names.now in
    let counted = c.len-i-end.ensures in
    let below = c.loop-i-test.true in
    let lt : c.loop-i.i < length c.args.ids.now = omega (arith, counted, below) in
    rw (c.set.ensures, c.renamed.ensures, c.as_slice.ensures, c.loop-i.invariant) (one_more f c.args.ids.now c.loop-i.i 0 lt)
