use Rattle.ll_parser.proofs.OneReading.{one_pointers}
use Rattle.ll_parser.proofs.laws.pointers_are_read_in_one_way.Goals as goal

pub returns : goal.returns
returns c = one_pointers
