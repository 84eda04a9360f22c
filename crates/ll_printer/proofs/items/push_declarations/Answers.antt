use Rattle.ll_printed.specs.ModulePhrases.{declaration_line}
use Rattle.ll_op_printer.proofs.Lists.{each_more}
use Rattle.ll_printer.proofs.items.push_declarations.Goals as goal

pub loop-i-preserved : goal.loop-i-preserved
loop-i-preserved c = each_more (declaration_line c.args.names.now) c.args.heads.now c.loop-i.i c.index-heads-i.result _ _ _ c.loop-i-test.true c.loop-i.invariant (rw (← c.index-heads-i.is) c.in_ok-push_declaration.ensures)
