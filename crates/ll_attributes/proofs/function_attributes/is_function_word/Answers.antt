use Rattle.ll_attributes.proofs.FunctionFacts.{word_decides}
use Rattle.ll_attributes.proofs.function_attributes.is_function_word.Goals as goal

pub returns : goal.returns
returns c = word_decides _ _ c.contains.ensures.value
