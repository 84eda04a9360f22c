use Rattle.ll_tree.proofs.Spelled.{spellings_apart}
use Rattle.ll_tree.proofs.laws.spellings_are_told_apart.Goals as goal

pub returns : goal.returns
returns c = spellings_apart
