use Rattle.rule_order.proofs.FirstBreak.{least-is}
use Rattle.rule_order.proofs.laws.least_is_least.Goals as goal

pub returns : goal.returns
returns c = least-is
