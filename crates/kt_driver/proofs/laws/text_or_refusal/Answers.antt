use Rattle.kt_driver.proofs.Refused.{text-not-refused}
use Rattle.kt_driver.proofs.laws.text_or_refusal.Goals as goal

pub returns : goal.returns
returns c = text-not-refused
