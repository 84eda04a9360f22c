use Rattle.ll_parser.proofs.PointerFacts.{both_lack}
use Rattle.ll_parser.proofs.suffixes.begins_no_pointer.Goals as goal

pub returns-then-lacks_space : goal.returns-then-lacks_space
returns-then-lacks_space c = both_lack _ _ _ c.if-lacks_space.true c.lacks_space.ensures c.lacks_star.ensures
