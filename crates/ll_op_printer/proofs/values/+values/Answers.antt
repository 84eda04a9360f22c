use Rattle.ll_phrases.specs.ValuePhrases.{typed_phrase}
use Rattle.ll_op_printer.proofs.Lists.{behind_more, list_more}
use Rattle.ll_op_printer.proofs.ValueShapes.{cast_written, path_written}
use Rattle.ll_op_printer.proofs.values.+values.Goals as goal

pub push_value-returns-in-GetElementPtr : goal.push_value-returns-in-GetElementPtr
push_value-returns-in-GetElementPtr t c = rw (c.in-GetElementPtr.is, path_written, ← c.as_slice-in-GetElementPtr.ensures) c.push_path.ensures

pub push_value-returns-in-Cast : goal.push_value-returns-in-Cast
push_value-returns-in-Cast t c = rw (c.in-Cast.is, cast_written, ← c.get.ensures) c.push_cast.ensures

pub push_values-loop-i-preserved : goal.push_values-loop-i-preserved
push_values-loop-i-preserved t c =
    list_more (typed_phrase c.args.names.now) c.args.values.now c.loop-i.i c.index-values-i.result _ _ _ _ c.loop-i-test.true c.loop-i.invariant c.in_ok-push_separator.ensures (rw (← c.index-values-i.is) c.in_ok-push_typed.ensures)

pub push_values_behind-loop-i-preserved : goal.push_values_behind-loop-i-preserved
push_values_behind-loop-i-preserved t c =
    behind_more (typed_phrase c.args.names.now) c.args.values.now c.loop-i.i c.index-values-i.result _ _ _ _ c.loop-i-test.true c.loop-i.invariant c.in_ok-push_bytes.ensures (rw (← c.index-values-i.is) c.in_ok-push_typed.ensures)
