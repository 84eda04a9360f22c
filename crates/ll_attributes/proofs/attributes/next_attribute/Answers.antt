use Rattle.ll_attributes.proofs.AttributesRead.{attribute_read}
use Rattle.ll_attributes.proofs.attributes.next_attribute.Goals as goal

pub returns-in-Some-2 : goal.returns-in-Some-2
returns-in-Some-2 c =
    let found = rw c.in-Some-2.is at c.in_ok-kind-in-Some.ensures in
    attribute_read _ _ _ _ _ _ _ c.in-Some.ensures (c.is_of_kind.ensures.0 c.if-is_of_kind.true) found
