use Rattle.std.proofs.Common.{◌≡◌, true, List, nat_eq, ap₂, ◌∙◌, subst}
use Rattle.std.specs.Cmp.Lexicographic.{pointwise}
use Rattle.std.specs.Ordering.{on}
use Rattle.indexmap.specs.IndexSet.{insert_key}
use Rattle.ll_tree.specs.declared.name.NameText.{NameText}
use Rattle.ll_parser.specs.NameCodes.{name_code, is_same_name}
use Rattle.ll_parser.proofs.TableFacts.{found_again}
use Rattle.ll_parser.proofs.name_table.NameTable.number_of.Goals as goal

pub returns-in-Ok-clause-known : goal.returns-in-Ok-clause-known
returns-in-Ok-clause-known c = λ i at.
    let (k, entry, same) = c.in-Ok.ensures.stored in
    found_again _ _ _ _ i
    (c.in-Ok.ensures.keys ∙ ap₂ (λ (names : List NameText) (name : NameText). insert_key (on name_code (pointwise nat_eq)) names name) c.self.view_is c.new.ensures)
    c.in-Ok.ensures.unique k entry (subst (λ (n : NameText). is_same_name n k ≡ true) c.new.ensures same) at
