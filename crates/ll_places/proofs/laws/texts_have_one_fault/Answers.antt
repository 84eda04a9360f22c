use Rattle.ll_places.proofs.Faults.{one_fault}
use Rattle.ll_places.proofs.laws.texts_have_one_fault.Goals as goal

pub returns : goal.returns
returns c = one_fault
