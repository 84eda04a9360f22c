use Rattle.spv_words.proofs.StringLaws.{one-string}
use Rattle.spv_words.proofs.laws.one_string.Goals as goal

pub returns : goal.returns
returns c = one-string
