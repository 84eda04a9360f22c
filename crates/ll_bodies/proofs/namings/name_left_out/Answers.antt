use Rattle.std.proofs.Common.{◌∙◌, sym}
use Rattle.ll_bodies.proofs.NamingsRead.{with_next, without_value}
use Rattle.ll_bodies.proofs.namings.name_left_out.Goals as goal

pub returns : goal.returns
returns c = without_value _ _ _ _ (sym c.has_value.ensures ∙ c.if-has_value.false)

pub returns-then-has_value : goal.returns-then-has_value
returns-then-has_value c = with_next _ _ _ _ _ _ _ (sym c.has_value.ensures ∙ c.if-has_value.true) c.in_ok-next.ensures c.in_ok-number.ensures.entry c.in_ok-number.ensures.kept
