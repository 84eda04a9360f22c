use Rattle.ll_printed.specs.FunctionPhrases.{block_phrase}
use Rattle.ll_op_printer.proofs.Lists.{each_more}
use Rattle.ll_printer.proofs.insts.push_blocks.Goals as goal

pub loop-i-preserved : goal.loop-i-preserved
loop-i-preserved c = each_more (block_phrase c.args.names.now) c.args.blocks.now c.loop-i.i c.index-blocks-i.result _ _ _ c.loop-i-test.true c.loop-i.invariant (rw (← c.index-blocks-i.is) c.in_ok-push_block.ensures)
