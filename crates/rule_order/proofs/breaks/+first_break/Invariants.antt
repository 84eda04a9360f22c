use Rattle.std.proofs.Common.{length}
use Rattle.rule_order.proofs.breaks.+first_break.Given as goal

abbrev pub decreases-first_break : goal.decreases-first_break
decreases-first_break l = length l.rules.now
