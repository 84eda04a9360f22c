use Rattle.ll_calls.proofs.CallsWhole.{call_whole}
use Rattle.ll_calls.proofs.laws.calls_before_an_end_are_whole.Goals as goal

pub returns : goal.returns
returns c = call_whole
