use Rattle.ll_types.proofs.NoValues.{none_typed, none_value}
use Rattle.ll_types.proofs.laws.refused_values_derive_nothing.Goals as goal

pub returns : goal.returns
returns c = record {
  value = λ t tokens refusal fails. none_value fails;
  typed = λ tokens refusal fails. none_typed fails;
}
