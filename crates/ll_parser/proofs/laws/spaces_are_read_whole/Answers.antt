use Rattle.ll_parser.proofs.OneReading.{space_read_whole, space_here_is_space}
use Rattle.ll_parser.proofs.laws.spaces_are_read_whole.Goals as goal

pub returns : goal.returns
returns c = record { whole = space_read_whole; right = space_here_is_space }
