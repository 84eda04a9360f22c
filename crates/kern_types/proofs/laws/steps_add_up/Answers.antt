use Rattle.kern_types.proofs.PathLemmas.{steps_add_up}
use Rattle.kern_types.proofs.laws.steps_add_up.Goals as goal

pub returns : goal.returns
returns c = steps_add_up
