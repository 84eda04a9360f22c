-- Calls of the grammar are those that are read, and what is read is of the grammar.
use Rattle.std.proofs.Common.{List, inl, inr}
use Rattle.ll_tokens.specs.Tokens.{Lexeme}
use Rattle.ll_tree.specs.declared.name.NameText.{NameText}
use Rattle.ll_tree.specs.declared.op.Op.{Op}
use Rattle.ll_tree.specs.declared.op.Op.TheVariants as op
use Rattle.ll_parser.specs.GrammarAttributes.{function_attribute}
use Rattle.ll_parser.specs.GrammarInsts.{operation}
use Rattle.ll_parser.specs.Productions.{◌>>◌}
use Rattle.ll_parser.specs.Reading.{EndsNowhere}
use Rattle.ll_operands.specs.Whole.{operation_here}
use Rattle.ll_attributes.specs.FunctionAttributes.{NoFunctionAttribute}
use Rattle.ll_attributes.proofs.FunctionFacts.{function_attributes_right, function_attributes_whole}
use Rattle.ll_calls.specs.Calls.{EndsCall, IsCall, call_operation}

pub call_whole : (names : List NameText) (o : Op) (tokens rest : List Lexeme) → IsCall o → operation names o tokens rest → EndsCall rest → call_operation names o tokens rest
unfolding ◌>>◌
call_whole names (op.Call t callee xs) tokens rest _ (a, tail, (b, w, (c, convention, (d, attributes, (e, type, (f, name, (g, bracket, (h, list, (k, close, function))))))))) ends =
    (a, tail, (b, w, (f, (c, convention, (d, attributes, (e, type, name))), (g, bracket, (k, (h, list, close), function_attributes_whole k rest function ends.no_attribute ends.no_value)))))
call_whole names other tokens rest none d ends = absurd none

-- no attribute of the grammar begins where none is read
no_attribute : (tokens : List Lexeme) → NoFunctionAttribute tokens → EndsNowhere function_attribute tokens
unfolding ◌>>◌
no_attribute tokens none b (inl (l, is, kind, _)) = none.no_group b (l, is, kind, tt)
no_attribute tokens none b (inr (inl (m, text, _))) = none.no_text m text
no_attribute tokens none b (inr (inr w)) = none.no_word b w

pub call_right : (names : List NameText) (o : Op) (tokens rest : List Lexeme) → call_operation names o tokens rest → IsCall o × operation_here names o tokens rest
unfolding ◌>>◌
call_right names (op.Call t callee xs) tokens rest (a, tail, (b, w, (f, (c, convention, (d, attributes, (e, type, name))), (g, bracket, (k, (h, list, close), function))))) = (
  tt,
  ((a, tail, (b, w, (c, convention, (d, attributes, (e, type, (f, name, (g, bracket, (h, list, (k, close, function_attributes_right k rest function))))))))), no_attribute rest function.all),
)
call_right names other tokens rest none = absurd none
