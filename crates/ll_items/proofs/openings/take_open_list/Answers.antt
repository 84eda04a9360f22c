use Rattle.ll_tokens.specs.declared.kinds.TokenKind.TheVariants.{Bang}
use Rattle.ll_parser.specs.NameReading.{any_of}
use Rattle.ll_parser.specs.Productions.{mark}
use Rattle.ll_items.proofs.ItemsRead.{two}
use Rattle.ll_items.proofs.openings.take_open_list.Goals as goal

pub returns : goal.returns
returns c = two (any_of Bang) (mark 123) _ _ _ c.in_ok-behind.ensures c.in_ok-rest.ensures.read
