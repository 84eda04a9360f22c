use Rattle.ll_printed.specs.ModulePhrases.{node_line}
use Rattle.ll_op_printer.proofs.Lists.{each_more}
use Rattle.ll_printer.proofs.nodes.push_nodes.Goals as goal

pub loop-i-preserved : goal.loop-i-preserved
loop-i-preserved c = each_more (node_line c.args.names.now) c.args.nodes.now c.loop-i.i c.index-nodes-i.result _ _ _ c.loop-i-test.true c.loop-i.invariant (rw (← c.index-nodes-i.is) c.in_ok-push_node.ensures)
