use Rattle.to_spirv.proofs.OrderLemmas.{ids-in_order}
use Rattle.to_spirv.proofs.laws.ids_are_in_order.Goals as goal

pub returns : goal.returns
returns c = ids-in_order
