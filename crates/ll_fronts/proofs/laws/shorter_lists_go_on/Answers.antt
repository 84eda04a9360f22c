use Rattle.ll_fronts.proofs.Shorter.{go_on}
use Rattle.ll_fronts.proofs.laws.shorter_lists_go_on.Goals as goal

pub returns : goal.returns
returns c = go_on
