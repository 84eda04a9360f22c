use Rattle.ll_printed.specs.ModulePhrases.{node_ref_phrase}
use Rattle.ll_op_printer.proofs.Lists.{list_more}
use Rattle.ll_printer.proofs.nodes.push_node_refs.Goals as goal

pub loop-i-preserved : goal.loop-i-preserved
loop-i-preserved c =
    list_more node_ref_phrase c.args.nodes.now c.loop-i.i _ _ _ _ _ c.loop-i-test.true c.loop-i.invariant c.in_ok-push_separator.ensures c.in_ok-push_node_ref.ensures
