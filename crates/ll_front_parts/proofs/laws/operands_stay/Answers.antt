use Rattle.ll_operands.specs.Parts.{typed_part}
use Rattle.ll_front_parts.proofs.Fronts.{one}
use Rattle.ll_front_parts.proofs.Refusals.{local_stays}
use Rattle.ll_front_parts.proofs.Values.{local_typed}
use Rattle.ll_front_parts.proofs.laws.operands_stay.Goals as goal

pub returns : goal.returns
returns c = local_stays one typed_part local_typed
