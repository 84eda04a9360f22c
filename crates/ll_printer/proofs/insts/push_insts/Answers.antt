use Rattle.ll_printed.specs.FunctionPhrases.{inst_phrase}
use Rattle.ll_op_printer.proofs.Lists.{each_more}
use Rattle.ll_printer.proofs.insts.push_insts.Goals as goal

pub loop-i-preserved : goal.loop-i-preserved
loop-i-preserved c = each_more (inst_phrase c.args.names.now) c.args.insts.now c.loop-i.i c.index-insts-i.result _ _ _ c.loop-i-test.true c.loop-i.invariant (rw (← c.index-insts-i.is) c.in_ok-push_line.ensures)
