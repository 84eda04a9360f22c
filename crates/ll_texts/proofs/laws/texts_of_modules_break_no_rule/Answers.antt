use Rattle.ll_texts.proofs.TextLaws.{module_breaks_none}
use Rattle.ll_texts.proofs.laws.texts_of_modules_break_no_rule.Goals as goal

pub returns : goal.returns
returns c = module_breaks_none
