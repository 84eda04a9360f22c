use Rattle.std.proofs.Common.{[], ◌∷◌}
use Rattle.ll_phrases.specs.Phrases.{list_phrase, written}
use Rattle.ll_phrases.specs.Texts.{global_phrase}
use Rattle.ll_phrases.specs.TypePhrases.{type_phrase}
use Rattle.ll_printed.specs.FunctionPhrases.{param_phrase}
use Rattle.ll_op_printer.proofs.Lists.{seven_ok}
use Rattle.ll_printer.proofs.heads.push_signature.Goals as goal

pub returns : goal.returns
returns c =
    seven_ok _ c.args.text.now.items (32 ∷ []) (written (type_phrase c.args.names.now c.args.ty.now)) (32 ∷ []) (written (global_phrase c.args.names.now c.args.name)) (40 ∷ [])
    (written (list_phrase (param_phrase c.args.names.now) c.args.params.now)) (41 ∷ []) _ _ _ _ _ _ _
    c.in_ok-push_bytes.ensures c.in_ok-push_type.ensures c.in_ok-push_bytes-2.ensures c.in_ok-push_global.ensures c.in_ok-push_bytes-3.ensures c.in_ok-push_params.ensures c.push_bytes-4.ensures
