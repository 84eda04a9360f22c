use Rattle.std.proofs.Common.{[], ◌∷◌, ◌++◌, codes}
use Rattle.ll_phrases.specs.Phrases.{list_phrase, written}
use Rattle.ll_phrases.specs.Texts.{global_phrase}
use Rattle.ll_phrases.specs.TypePhrases.{type_phrase}
use Rattle.ll_phrases.specs.ValuePhrases.{typed_phrase}
use Rattle.ll_op_printer.proofs.Lists.{seven_ok}
use Rattle.ll_op_printer.proofs.ops.push_call.Goals as goal

pub returns : goal.returns
returns c =
    seven_ok _ c.args.text.now.items (codes "call spir_func ") (written (type_phrase c.args.names.now c.args.ty.now)) (32 ∷ []) (written (global_phrase c.args.names.now c.args.callee)) (40 ∷ [])
    (written (list_phrase (typed_phrase c.args.names.now) c.args.arguments.now)) (41 ∷ []) _ _ _ _ _ _ _
    c.in_ok-push_bytes.ensures c.in_ok-push_type.ensures c.in_ok-push_bytes-2.ensures c.in_ok-push_global.ensures c.in_ok-push_bytes-3.ensures c.in_ok-push_values.ensures c.push_bytes-4.ensures
