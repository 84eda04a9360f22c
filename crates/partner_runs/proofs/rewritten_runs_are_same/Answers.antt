use Rattle.partner_runs.proofs.Translations.{rewritten-runs}
use Rattle.partner_runs.proofs.rewritten_runs_are_same.Goals as goal

pub returns : goal.returns
returns c = rewritten-runs
