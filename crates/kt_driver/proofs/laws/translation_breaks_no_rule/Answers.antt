use Rattle.kt_driver.proofs.FirstBreaks.{translation-breaks-none}
use Rattle.kt_driver.proofs.laws.translation_breaks_no_rule.Goals as goal

pub returns : goal.returns
returns c = translation-breaks-none
