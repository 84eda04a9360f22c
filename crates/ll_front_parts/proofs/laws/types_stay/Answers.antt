use Rattle.ll_operands.specs.Parts.{type_part}
use Rattle.ll_front_parts.proofs.Fronts.{one}
use Rattle.ll_front_parts.proofs.Refusals.{local_stays}
use Rattle.ll_front_parts.proofs.Types.{local_type}
use Rattle.ll_front_parts.proofs.laws.types_stay.Goals as goal

pub returns : goal.returns
returns c = local_stays one type_part local_type
