use Rattle.ll_bodies.proofs.LabelsRead.{label_one}
use Rattle.ll_bodies.proofs.laws.labels_leave_one_rest.Goals as goal

pub returns : goal.returns
returns c = label_one
