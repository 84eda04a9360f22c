use Rattle.std.proofs.Common.{[], ◌∷◌, ◌++◌, codes}
use Rattle.ll_phrases.specs.Phrases.{written}
use Rattle.ll_printed.specs.OpPhrases.{align_phrase, atomic_phrase, two_phrase}
use Rattle.ll_op_printer.proofs.Lists.{three_ok}
use Rattle.ll_op_printer.proofs.memory.push_atomic_store.Goals as goal

pub returns : goal.returns
returns c =
    three_ok _ c.args.text.now.items (codes "store atomic" ++ 32 ∷ written (two_phrase c.args.names.now c.args.value.now c.args.pointer.now)) (written (atomic_phrase c.args.scope.now c.args.order)) (written (align_phrase c.args.align)) _ _ _
    c.in_ok-push_two_behind.ensures c.in_ok-push_atomic.ensures c.push_alignment.ensures
