use Rattle.partner_runs.proofs.Translations.{translated-runs}
use Rattle.partner_runs.proofs.translated_runs_are_same.Goals as goal

pub returns : goal.returns
returns c = translated-runs
