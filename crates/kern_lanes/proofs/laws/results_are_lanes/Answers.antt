use Rattle.kern_lanes.proofs.LaneLemmas.{gives_lanes}
use Rattle.kern_lanes.proofs.laws.results_are_lanes.Goals as goal

pub returns : goal.returns
returns c = gives_lanes
