use Rattle.ll_types.proofs.TypesAlike.{types_alike}
use Rattle.ll_types.proofs.laws.types_are_read_in_one_way.Goals as goal

pub returns : goal.returns
returns c = types_alike
