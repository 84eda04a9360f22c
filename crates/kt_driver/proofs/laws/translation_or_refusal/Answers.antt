use Rattle.kt_driver.proofs.Refused.{translation-not-refused}
use Rattle.kt_driver.proofs.laws.translation_or_refusal.Goals as goal

pub returns : goal.returns
returns c = translation-not-refused
