use Rattle.ll_types.proofs.NoTypes.{none_type}
use Rattle.ll_types.proofs.laws.refused_types_derive_nothing.Goals as goal

pub returns : goal.returns
returns c = λ tokens refusal fails. none_type fails
