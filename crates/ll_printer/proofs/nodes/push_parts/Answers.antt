use Rattle.ll_printed.specs.ModulePhrases.{part_phrase}
use Rattle.ll_op_printer.proofs.Lists.{list_more}
use Rattle.ll_printer.proofs.nodes.push_parts.Goals as goal

pub loop-i-preserved : goal.loop-i-preserved
loop-i-preserved c =
    list_more (part_phrase c.args.names.now) c.args.parts.now c.loop-i.i c.index-parts-i.result _ _ _ _ c.loop-i-test.true c.loop-i.invariant c.in_ok-push_separator.ensures
    (rw (← c.index-parts-i.is) c.in_ok-push_part.ensures)
