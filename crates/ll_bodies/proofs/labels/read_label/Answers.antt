use Rattle.ll_bodies.proofs.LabelsRead.{numbered_read}
use Rattle.ll_bodies.proofs.labels.read_label.Goals as goal

pub returns-in_ok-number-in-None : goal.returns-in_ok-number-in-None
returns-in_ok-number-in-None c =
    let none = rw c.in-None.is at c.take_label.ensures in
    numbered_read _ _ _ _ _ _ c.first_place-byte.ensures none c.in_ok-number-in-None.ensures.entry c.in_ok-number-in-None.ensures.kept
