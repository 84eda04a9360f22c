use Rattle.std.proofs.Common.{codes}
use Rattle.ll_parser.specs.Productions.{word}
use Rattle.ll_types.proofs.TypesRead.{unexpected_at}
use Rattle.ll_items.proofs.ItemsRead.{no_target_kind}
use Rattle.ll_items.proofs.targets.target_kind.Goals as goal

pub returns : goal.returns
returns c = (
  no_target_kind _ c.in_default.ensures.read c.in_default-take_word.ensures.read,
  (unexpected_at (word (codes "triple")) _ _ c.in_default-take_word.ensures.read c.unexpected.ensures).1,
)
