use Rattle.kern_types.proofs.TableLemmas.{layouts_stay}
use Rattle.kern_types.proofs.laws.layouts_stay.Goals as goal

pub returns : goal.returns
returns c = layouts_stay
