use Rattle.kernel_reading.proofs.OwnNames.{own-name}
use Rattle.kernel_reading.proofs.laws.own_names_are_own.Goals as goal

pub returns : goal.returns
returns c = own-name
