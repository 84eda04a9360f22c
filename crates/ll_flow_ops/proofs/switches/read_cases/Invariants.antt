use Rattle.std.proofs.Common.{[]}
use Rattle.ll_parser.specs.GrammarInsts.{switch_case}
use Rattle.ll_operands.proofs.ItemsRead.{ItemsSoFar}
use Rattle.ll_flow_ops.proofs.switches.read_cases.Given as goal

abbrev pub invariant-loop-cases : goal.invariant-loop-cases
invariant-loop-cases l = ItemsSoFar switch_case l.fn.names l.names [] l.tokens l.cases l.left

abbrev pub decreases-loop-cases : goal.decreases-loop-cases
decreases-loop-cases l = l.left
