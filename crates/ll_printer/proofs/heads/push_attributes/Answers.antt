use Rattle.ll_printed.specs.FunctionPhrases.{attribute_phrase}
use Rattle.ll_op_printer.proofs.Lists.{each_more}
use Rattle.ll_printer.proofs.heads.push_attributes.Goals as goal

pub loop-i-preserved : goal.loop-i-preserved
loop-i-preserved c = each_more (attribute_phrase c.args.names.now) c.args.attributes.now c.loop-i.i c.index-attributes-i.result _ _ _ c.loop-i-test.true c.loop-i.invariant (rw (← c.index-attributes-i.is) c.in_ok-push_attribute.ensures)
