use Rattle.std.proofs.Common.{codes}
use Rattle.ll_parser.specs.GrammarItems.{any_text}
use Rattle.ll_parser.specs.Productions.{◌>>◌, mark, word}
use Rattle.ll_items.proofs.ItemsRead.{two}
use Rattle.ll_items.proofs.groups.skip_source_filename.Goals as goal

pub returns : goal.returns
returns c = two (word (codes "source_filename")) (mark 61 >> any_text) _ _ _ c.in_ok-behind.ensures.read (two (mark 61) any_text _ _ _ c.in_ok-after.ensures.read c.in_ok-rest.ensures)
