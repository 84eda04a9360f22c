use Rattle.std.specs.Fmt.{decimal}
use Rattle.std.proofs.Common.{[], ◌∷◌, ◌++◌, codes}
use Rattle.ll_phrases.specs.Phrases.{written}
use Rattle.ll_phrases.specs.ValuePhrases.{typed_phrase}
use Rattle.ll_op_printer.proofs.Lists.{three_ok}
use Rattle.ll_op_printer.proofs.ops.push_extract_value.Goals as goal

pub returns : goal.returns
returns c =
    three_ok _ c.args.text.now.items (codes "extractvalue" ++ 32 ∷ written (typed_phrase c.args.names.now c.args.aggregate.now)) (44 ∷ 32 ∷ []) (decimal c.args.index) _ _ _
    c.in_ok-push_one_behind.ensures c.in_ok-push_bytes.ensures c.push_number.ensures
