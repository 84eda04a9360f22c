use Rattle.kernel_reading.proofs.OwnBytes.{own-utf8}
use Rattle.kernel_reading.proofs.laws.own_names_are_utf8.Goals as goal

pub returns : goal.returns
returns c = own-utf8
