use Rattle.ll_calls.proofs.PartsDerived.{of_part}
use Rattle.ll_calls.proofs.laws.calls_are_parts.Goals as goal

pub returns : goal.returns
returns c = of_part
