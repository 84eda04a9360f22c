use Rattle.ll_fronts.proofs.Refusals.{no_text}
use Rattle.ll_fronts.proofs.laws.texts_depend_on_nothing_behind.Goals as goal

pub returns : goal.returns
returns c = no_text
