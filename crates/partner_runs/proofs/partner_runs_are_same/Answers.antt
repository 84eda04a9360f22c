use Rattle.partner_runs.proofs.Translations.{partner-runs}
use Rattle.partner_runs.proofs.partner_runs_are_same.Goals as goal

pub returns : goal.returns
returns c = partner-runs
