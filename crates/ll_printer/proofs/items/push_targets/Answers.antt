use Rattle.ll_printed.specs.ModulePhrases.{target_line}
use Rattle.ll_op_printer.proofs.Lists.{each_more}
use Rattle.ll_printer.proofs.items.push_targets.Goals as goal

pub loop-i-preserved : goal.loop-i-preserved
loop-i-preserved c = each_more target_line c.args.targets.now c.loop-i.i c.index-targets-i.result _ _ _ c.loop-i-test.true c.loop-i.invariant (rw (← c.index-targets-i.is) c.in_ok-push_target.ensures)
