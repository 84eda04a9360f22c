use Rattle.ll_printed.specs.OpPhrases.{flag_phrase}
use Rattle.ll_op_printer.proofs.Lists.{each_more}
use Rattle.ll_op_printer.proofs.operands.push_flags.Goals as goal

pub loop-flag-preserved : goal.loop-flag-preserved
loop-flag-preserved c = each_more flag_phrase c.args.flags.now c.loop-flag.flag-index _ _ _ _ c.loop-flag-test.true c.loop-flag.invariant c.in_ok-push_flag.ensures
