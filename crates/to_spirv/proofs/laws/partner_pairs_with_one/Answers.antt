use Rattle.to_spirv.proofs.AloneLemmas.{pairs-alone}
use Rattle.to_spirv.proofs.laws.partner_pairs_with_one.Goals as goal

pub returns : goal.returns
returns c = pairs-alone
