use Rattle.ll_attributes.proofs.HeadFacts.{convention_same, linkage_same}
use Rattle.ll_attributes.proofs.laws.heads_are_read_in_one_way.Goals as goal

pub returns : goal.returns
returns c = record { linkage = linkage_same; convention = convention_same }
