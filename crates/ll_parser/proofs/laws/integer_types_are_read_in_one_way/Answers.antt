use Rattle.ll_parser.proofs.OneReading.{one_integer_type}
use Rattle.ll_parser.proofs.laws.integer_types_are_read_in_one_way.Goals as goal

pub returns : goal.returns
returns c = one_integer_type
