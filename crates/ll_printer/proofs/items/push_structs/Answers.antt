use Rattle.ll_printed.specs.ModulePhrases.{struct_line}
use Rattle.ll_op_printer.proofs.Lists.{each_more}
use Rattle.ll_printer.proofs.items.push_structs.Goals as goal

pub loop-i-preserved : goal.loop-i-preserved
loop-i-preserved c = each_more (struct_line c.args.names.now) c.args.structs.now c.loop-i.i c.index-structs-i.result _ _ _ c.loop-i-test.true c.loop-i.invariant (rw (← c.index-structs-i.is) c.in_ok-push_struct.ensures)
