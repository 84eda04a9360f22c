use Rattle.ll_calls.proofs.ExactCalls.{exact_call}
use Rattle.ll_calls.proofs.PartsDerived.{of_part}
use Rattle.ll_calls.proofs.laws.calls_leave_one_rest.Goals as goal

pub returns : goal.returns
returns c = λ names other o p tokens a b d e. exact_call.one tokens a b (of_part names o tokens a d) (of_part other p tokens b e)
