use Rattle.spv_words.proofs.StringLaws.{string-reads_back}
use Rattle.spv_words.proofs.laws.string_reads_back.Goals as goal

pub returns : goal.returns
returns c = string-reads_back
