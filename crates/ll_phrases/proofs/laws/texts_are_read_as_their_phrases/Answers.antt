use Rattle.ll_phrases.proofs.PhrasesRead.{texts-read}
use Rattle.ll_phrases.proofs.laws.texts_are_read_as_their_phrases.Goals as goal

pub returns : goal.returns
returns c = texts-read
