use Rattle.kt_driver.proofs.FirstBreaks.{refusal-first}
use Rattle.kt_driver.proofs.laws.refusal_is_first.Goals as goal

pub returns : goal.returns
returns c = refusal-first
