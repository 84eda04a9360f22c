use Rattle.ll_parser.proofs.OneReading.{one_number}
use Rattle.ll_parser.proofs.laws.numbers_are_read_in_one_way.Goals as goal

pub returns : goal.returns
returns c = one_number
