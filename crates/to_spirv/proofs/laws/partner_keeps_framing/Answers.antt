use Rattle.to_spirv.proofs.FitLemmas.{framing-kept}
use Rattle.to_spirv.proofs.laws.partner_keeps_framing.Goals as goal

pub returns : goal.returns
returns c = framing-kept
