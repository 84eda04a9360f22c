use Rattle.ll_parser.proofs.WordTypeFacts.{no_word_type}
use Rattle.ll_parser.proofs.word_types.word_type.Goals as goal

pub returns-in-None-clause-read : goal.returns-in-None-clause-read
returns-in-None-clause-read c = no_word_type _ _ _ c.in-Some.ensures (λ _. c.in-None.ensures)
