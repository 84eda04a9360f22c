use Rattle.ll_one_module.proofs.OneFound.{typed-one, values-one}
use Rattle.ll_one_module.proofs.laws.values_are_one.Goals as goal

pub returns-clause-value : goal.returns-clause-value
returns-clause-value c = values-one

pub returns-clause-typed : goal.returns-clause-typed
returns-clause-typed c = typed-one
