use Rattle.std.proofs.Common.{refl}
use Rattle.std.proofs.lemmas.Result.{err_from_is_err_and}
use Rattle.ll_attributes.proofs.AttributesRead.{attributes_read, attributes_stop, fewer_attributes, more_attributes}
use Rattle.ll_attributes.proofs.attributes.read_attributes.Goals as goal

pub returns-in_err-attribute : goal.returns-in_err-attribute
returns-in_err-attribute c =
    let p = err_from_is_err_and c.from_residual.result c.from_residual.ensures.1 in
    rw p.1 (attributes_stop _ _ _ _ _ _ _ _ p.2 c.loop-attributes.invariant c.last.ensures c.in_err-attribute.ensures)

pub loop-attributes-smaller : goal.loop-attributes-smaller
loop-attributes-smaller c =
    let one = rw c.in-Some.is at c.in_ok-attribute.ensures in
    fewer_attributes _ _ _ _ _ _ _ _ _ c.loop-attributes.invariant c.last.ensures one

pub loop-attributes-preserved : goal.loop-attributes-preserved
loop-attributes-preserved c =
    let one = rw c.in-Some.is at c.in_ok-attribute.ensures in
    more_attributes _ _ _ _ _ _ _ _ _ _ _ c.loop-attributes.invariant c.last.ensures one c.in_ok-push.ensures.ok refl

pub returns : goal.returns
returns c =
    let none = rw c.in_default.is at c.in_ok-attribute.ensures in
    attributes_read _ _ _ _ _ _ _ _ c.loop-attributes.invariant c.last.ensures c.last-2.ensures none
