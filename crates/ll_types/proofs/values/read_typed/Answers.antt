use Rattle.ll_parser.specs.GrammarValues.{typed}
use Rattle.ll_types.specs.ValueRefusals.{TypedFails}
use Rattle.ll_types.proofs.NoValues.{none_typed, with_none}
use Rattle.ll_types.proofs.values.read_typed.Goals as goal

pub returns : goal.returns
returns c = with_none _ typed TypedFails _ (λ refusal fails. none_typed fails) c.typed_value.result c.typed_value.ensures
