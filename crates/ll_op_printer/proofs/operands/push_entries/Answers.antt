use Rattle.ll_printed.specs.OpPhrases.{entry_phrase}
use Rattle.ll_op_printer.proofs.Lists.{list_more}
use Rattle.ll_op_printer.proofs.operands.push_entries.Goals as goal

pub loop-i-preserved : goal.loop-i-preserved
loop-i-preserved c = list_more (entry_phrase c.args.names.now) c.args.entries.now c.loop-i.i c.index-entries-i.result _ _ _ _ c.loop-i-test.true c.loop-i.invariant c.in_ok-push_separator.ensures (rw (← c.index-entries-i.is) c.in_ok-push_entry.ensures)
