use Rattle.ll_types.proofs.NoTypes.{with_none}
use Rattle.ll_types.proofs.types.read_type.Goals as goal

pub returns : goal.returns
returns c = with_none _ _ c.whole_type.result c.whole_type.ensures
