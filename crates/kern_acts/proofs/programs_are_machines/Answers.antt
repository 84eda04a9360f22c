use Rattle.kern_acts.proofs.Machines.{is-machine}
use Rattle.kern_acts.proofs.programs_are_machines.Goals as goal

pub returns : goal.returns
returns c = is-machine
