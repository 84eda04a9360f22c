use Rattle.ll_parser.specs.Productions.{word}
use Rattle.ll_attributes.proofs.HeadFacts.{convention_whole, linkage_whole, maybe_whole}
use Rattle.ll_attributes.proofs.laws.heads_are_read_whole.Goals as goal

pub returns : goal.returns
returns c = record { linkage = linkage_whole; convention = convention_whole; others = λ text. maybe_whole (word text) }
