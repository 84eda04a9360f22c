use Rattle.spv_words.proofs.StringLaws.{one-word_list}
use Rattle.spv_words.proofs.laws.one_word_list.Goals as goal

pub returns : goal.returns
returns c = one-word_list
