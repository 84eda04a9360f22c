use Rattle.ll_attributes.proofs.FunctionFacts.{no_function_attribute_at, no_function_attribute_at_other_word, no_function_attribute_in_nil}
use Rattle.ll_attributes.proofs.laws.other_tokens_begin_no_function_attribute.Goals as goal

pub returns : goal.returns
returns c = record {
  tokens = λ kind. no_function_attribute_at kind (λ _. Unit {0});
  words = no_function_attribute_at_other_word;
  nothing = no_function_attribute_in_nil;
}
