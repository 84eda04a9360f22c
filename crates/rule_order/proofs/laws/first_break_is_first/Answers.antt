use Rattle.rule_order.proofs.FirstBreak.{first-is}
use Rattle.rule_order.proofs.laws.first_break_is_first.Goals as goal

pub returns : goal.returns
returns c = first-is
