-- Names that instructions are given, as they are read (LLVM 14, Identifiers).
use Rattle.std.specs.Prelude.{◌≡◌, ℕ, List, Option, if◌then◌else◌}
use Rattle.ll_tree.specs.declared.name.Name.{Name}
use Rattle.ll_tree.specs.declared.name.NameText.{NameText}
use Rattle.ll_tree.specs.declared.op.Op.{Op}
use Rattle.ll_parser.specs.GrammarFunctions.{given, naming, next_after}
use Rattle.ll_parser.specs.GrammarValues.{local}
use Rattle.ll_parser.specs.Productions.{Production, ◌>>◌, mark}
use Rattle.ll_parser.specs.Tables.{Extends}
use Rattle.ll_operands.specs.Parts.{Part, local_part, mark_part, ◌then◌}

-- a name before `=`, 61
abbrev pub given_name : List NameText → Name → Production
given_name names name = local names name >> mark 61

abbrev pub given_part : Part
given_part = local_part then mark_part 61

-- what an instruction at a place is called that is given no name, and the next number behind it, by the table that is left and by
-- every longer one
pub record NamesUnnamed (next end byte : ℕ) (o : Op) (found left : List NameText) (name : Option Name) : Type 0 where
  pub extends : Extends found left
  pub named : (longer : List NameText) (tokens : _) → Extends left longer → naming longer next byte o name tokens tokens
  pub numbered : (longer : List NameText) → Extends left longer → end ≡ next_after longer (given longer name) next
