use Rattle.ll_types.proofs.OneValue.{typed_one, value_one}
use Rattle.ll_types.proofs.laws.values_leave_one_rest.Goals as goal

pub returns : goal.returns
returns c = record { value = value_one; typed = typed_one }
