use Rattle.ll_printed.specs.ModulePhrases.{variable_line}
use Rattle.ll_op_printer.proofs.Lists.{each_more}
use Rattle.ll_printer.proofs.variables.push_variables.Goals as goal

pub loop-i-preserved : goal.loop-i-preserved
loop-i-preserved c = each_more (variable_line c.args.names.now) c.args.variables.now c.loop-i.i c.index-variables-i.result _ _ _ c.loop-i-test.true c.loop-i.invariant (rw (← c.index-variables-i.is) c.in_ok-push_variable.ensures)
