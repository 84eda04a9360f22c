use Rattle.ll_printed.specs.OpPhrases.{case_phrase}
use Rattle.ll_op_printer.proofs.Lists.{each_more}
use Rattle.ll_op_printer.proofs.operands.push_each_case.Goals as goal

pub loop-i-preserved : goal.loop-i-preserved
loop-i-preserved c = each_more (case_phrase c.args.names.now) c.args.cases.now c.loop-i.i c.index-cases-i.result _ _ _ c.loop-i-test.true c.loop-i.invariant (rw (← c.index-cases-i.is) c.in_ok-push_case.ensures)
