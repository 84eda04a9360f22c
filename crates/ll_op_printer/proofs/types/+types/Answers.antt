use Rattle.ll_phrases.specs.TypePhrases.{type_phrase}
use Rattle.ll_op_printer.proofs.Lists.{list_more}
use Rattle.ll_op_printer.proofs.TypeShapes.{array_written, vector_written}
use Rattle.ll_op_printer.proofs.types.+types.Goals as goal

pub push_base-returns-in-Array : goal.push_base-returns-in-Array
push_base-returns-in-Array t c = rw (c.in-Array.is, array_written, ← c.get.ensures) c.push_array.ensures

pub push_base-returns-in-Vector : goal.push_base-returns-in-Vector
push_base-returns-in-Vector t c = rw (c.in-Vector.is, vector_written, ← c.get-in-Vector.ensures) c.push_vector.ensures

pub push_types-loop-i-preserved : goal.push_types-loop-i-preserved
push_types-loop-i-preserved t c =
    list_more (type_phrase c.args.names.now) c.args.types.now c.loop-i.i c.index-types-i.result _ _ _ _ c.loop-i-test.true c.loop-i.invariant c.in_ok-push_separator.ensures (rw (← c.index-types-i.is) c.in_ok-push_type.ensures)
