use Rattle.ll_types.specs.ValueParts.{value_of}
use Rattle.ll_types.specs.ValueRefusals.{ValueFails}
use Rattle.ll_types.proofs.NoValues.{none_value, with_none}
use Rattle.ll_types.proofs.values.read_value.Goals as goal

pub returns : goal.returns
returns c =
    with_none _ (value_of c.args.ty.now) (ValueFails c.args.ty.now) _ (λ refusal fails. none_value fails) c.whole_value.result c.whole_value.ensures
