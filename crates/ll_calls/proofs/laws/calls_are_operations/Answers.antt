use Rattle.ll_calls.proofs.CallsWhole.{call_right}
use Rattle.ll_calls.proofs.laws.calls_are_operations.Goals as goal

pub returns : goal.returns
returns c = call_right
