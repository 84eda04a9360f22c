use Rattle.ll_calls.proofs.ExactCalls.{exact_call}
use Rattle.ll_calls.proofs.PartsDerived.{of_part}
use Rattle.ll_calls.proofs.laws.refused_calls_derive_nothing.Goals as goal

pub returns : goal.returns
returns c = λ tokens refusal stops names o rest d. exact_call.none tokens rest refusal stops (of_part names o tokens rest d)
