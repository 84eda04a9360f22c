use Rattle.kern_types.proofs.AlignLemmas.{layouts_are_aligned}
use Rattle.kern_types.proofs.laws.layouts_are_aligned.Goals as goal

pub returns : goal.returns
returns c = layouts_are_aligned
