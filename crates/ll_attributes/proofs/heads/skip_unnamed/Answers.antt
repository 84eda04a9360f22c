use Rattle.std.proofs.Common.{codes}
use Rattle.ll_parser.specs.Productions.{word}
use Rattle.ll_attributes.proofs.ListFacts.{neither}
use Rattle.ll_attributes.proofs.heads.skip_unnamed.Goals as goal

pub returns : goal.returns
returns c = neither (word (codes "unnamed_addr")) (word (codes "local_unnamed_addr")) _ c.in_default.ensures.read c.in_default-take_word.ensures.read
