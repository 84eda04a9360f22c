use Rattle.to_spirv.proofs.PairLemmas.{pairs}
use Rattle.to_spirv.proofs.laws.partner_pairs.Goals as goal

pub returns : goal.returns
returns c = pairs
