use Rattle.std.proofs.Common.{[], ◌∷◌, ◌++◌, codes}
use Rattle.ll_phrases.specs.Phrases.{written}
use Rattle.ll_phrases.specs.TypePhrases.{type_phrase}
use Rattle.ll_phrases.specs.ValuePhrases.{typed_phrase}
use Rattle.ll_printed.specs.OpPhrases.{align_phrase, atomic_phrase}
use Rattle.ll_op_printer.proofs.Lists.{loaded_ok}
use Rattle.ll_op_printer.proofs.memory.push_atomic_load.Goals as goal

pub returns : goal.returns
returns c =
    loaded_ok _ c.args.text.now.items (codes "load atomic ") (written (type_phrase c.args.names.now c.args.ty.now)) (44 ∷ 32 ∷ written (typed_phrase c.args.names.now c.args.pointer.now))
    (written (atomic_phrase c.args.scope.now c.args.order)) (written (align_phrase c.args.align)) _ _ _ _
    c.in_ok-push_bytes.ensures c.in_ok-push_pointed.ensures c.in_ok-push_atomic.ensures c.push_alignment.ensures
