use Rattle.std.proofs.Common.{codes}
use Rattle.ll_parser.specs.Productions.{word}
use Rattle.ll_types.proofs.TypesRead.{unexpected_at}
use Rattle.ll_items.proofs.VariableWhole.{neither}
use Rattle.ll_items.proofs.variables.take_variable_kind.Goals as goal

pub returns : goal.returns
returns c = (
  neither (codes "global") (codes "constant") _ c.in_default.ensures.read c.in_default-take_word.ensures.read,
  (unexpected_at (word (codes "constant")) _ _ c.in_default-take_word.ensures.read c.unexpected.ensures).1,
)
