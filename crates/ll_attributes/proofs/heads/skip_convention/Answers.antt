use Rattle.std.proofs.Common.{codes}
use Rattle.ll_parser.specs.Productions.{word}
use Rattle.ll_attributes.proofs.ListFacts.{neither}
use Rattle.ll_attributes.proofs.heads.skip_convention.Goals as goal

pub returns : goal.returns
returns c = neither (word (codes "spir_kernel")) (word (codes "spir_func")) _ c.in_default.ensures.read c.in_default-take_word.ensures.read
