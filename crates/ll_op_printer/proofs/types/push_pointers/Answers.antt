use Rattle.ll_phrases.specs.TypePhrases.{pointer_phrase}
use Rattle.ll_op_printer.proofs.Lists.{each_more}
use Rattle.ll_op_printer.proofs.types.push_pointers.Goals as goal

pub loop-space-preserved : goal.loop-space-preserved
loop-space-preserved c = each_more pointer_phrase c.args.spaces.now c.loop-space.space-index 0 _ _ _ c.loop-space-test.true c.loop-space.invariant c.in_ok-push_pointer.ensures
