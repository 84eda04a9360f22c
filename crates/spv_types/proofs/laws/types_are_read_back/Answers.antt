use Rattle.spv_types.proofs.ReadBack.{read-back}
use Rattle.spv_types.proofs.laws.types_are_read_back.Goals as goal

pub returns : goal.returns
returns c = read-back
