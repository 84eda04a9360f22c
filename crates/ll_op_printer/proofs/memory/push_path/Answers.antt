use Rattle.std.proofs.Common.{[], ◌∷◌, ◌++◌, codes}
use Rattle.ll_phrases.specs.Phrases.{each_behind, written}
use Rattle.ll_phrases.specs.TypePhrases.{type_phrase}
use Rattle.ll_phrases.specs.ValuePhrases.{typed_phrase, word_behind}
use Rattle.ll_op_printer.proofs.Lists.{four_ok}
use Rattle.ll_op_printer.proofs.memory.push_path.Goals as goal

pub returns : goal.returns
returns c =
    four_ok _ c.args.text.now.items (codes "getelementptr" ++ written (word_behind (codes "inbounds") c.args.inbounds)) (32 ∷ []) (written (type_phrase c.args.names.now c.args.ty.now)) (44 ∷ 32 ∷ written (typed_phrase c.args.names.now c.args.pointer.now))
    (written (each_behind (typed_phrase c.args.names.now) c.args.indexes.now)) _ _ _ _
    c.in_ok-push_marked.ensures c.in_ok-push_bytes.ensures c.in_ok-push_pointed.ensures c.push_values_behind.ensures
