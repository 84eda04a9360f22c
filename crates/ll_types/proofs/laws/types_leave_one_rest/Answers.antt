use Rattle.ll_types.proofs.OneType.{type_one}
use Rattle.ll_types.proofs.laws.types_leave_one_rest.Goals as goal

pub returns : goal.returns
returns c = type_one
