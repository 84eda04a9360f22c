use Rattle.to_spirv.proofs.TextLemmas.{text-are_words}
use Rattle.to_spirv.proofs.laws.text_has_its_words.Goals as goal

pub returns : goal.returns
returns c = text-are_words
