use Rattle.ll_parser.proofs.WordTypeFacts.{word_names_none}
use Rattle.ll_parser.proofs.word_types.type_of_word.Goals as goal

pub returns-in-None : goal.returns-in-None
returns-in-None c = word_names_none _ _ c.as_bytes.ensures.value c.in_default.not-void c.in_default.not-half c.in_default.not-float c.in_default.not-double c.in-None.ensures
