use Rattle.std.proofs.Common.{[], ◌∷◌, ◌++◌, codes}
use Rattle.ll_phrases.specs.Phrases.{written}
use Rattle.ll_phrases.specs.TypePhrases.{type_phrase}
use Rattle.ll_phrases.specs.ValuePhrases.{word_behind}
use Rattle.ll_op_printer.proofs.Lists.{three_parts}
use Rattle.ll_op_printer.proofs.values.push_path_type.Goals as goal

pub returns : goal.returns
returns c =
    three_parts _ (codes "getelementptr" ++ written (word_behind (codes "inbounds") c.args.inbounds)) (32 ∷ 40 ∷ []) (written (type_phrase c.args.names.now c.args.ty.now)) _ _ _
    c.in_ok-push_marked.ensures c.in_ok-push_bytes.ensures c.in_ok-push_type.ensures
