use Rattle.std.proofs.Common.{subst}
use Rattle.ll_parser.specs.Tables.{NoNameTwice}
use Rattle.ll_parser.proofs.TableFacts.{once}
use Rattle.ll_parser.proofs.name_table.NameTable.into_items.Goals as goal

pub returns-clause-once : goal.returns-clause-once
returns-clause-once c = subst NoNameTwice c.self.view_is (once _ c.into_iter-key-iterator.ensures.into_iter_gives.3)
