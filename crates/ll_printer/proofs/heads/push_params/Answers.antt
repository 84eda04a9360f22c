use Rattle.ll_printed.specs.FunctionPhrases.{param_phrase}
use Rattle.ll_op_printer.proofs.Lists.{list_more}
use Rattle.ll_printer.proofs.heads.push_params.Goals as goal

pub loop-i-preserved : goal.loop-i-preserved
loop-i-preserved c =
    list_more (param_phrase c.args.names.now) c.args.params.now c.loop-i.i c.index-params-i.result _ _ _ _ c.loop-i-test.true c.loop-i.invariant c.in_ok-push_separator.ensures
    (rw (← c.index-params-i.is) c.in_ok-push_param.ensures)
