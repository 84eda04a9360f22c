use Rattle.ll_texts.proofs.TextLaws.{module-not-faulty}
use Rattle.ll_texts.proofs.laws.modules_have_no_fault.Goals as goal

pub returns : goal.returns
returns c = module-not-faulty
