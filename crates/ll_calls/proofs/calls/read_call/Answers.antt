use Rattle.ll_calls.proofs.CallsRead.{call_read}
use Rattle.ll_calls.proofs.calls.read_call.Goals as goal

pub returns-in_ok-called-in-Some : goal.returns-in_ok-called-in-Some
returns-in_ok-called-in-Some c = call_read _ _ _ _ _ _ _ _ c.in-Some.ensures c.in_ok-called-in-Some.ensures c.call_of.ensures
