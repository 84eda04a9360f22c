-- A text is that of one module, and what a module is written as is read as that module.
use Rattle.std.proofs.Common.{◌≡◌, ℕ, List, length, [], sym, ap, ◌∙◌, subst}
use Rattle.ll_tokens.proofs.Places.{no_token_at_end, one_reading}
use Rattle.ll_tree.specs.declared.module.LlModule.{LlModule}
use Rattle.ll_tree.specs.declared.name.NameText.{NameText}
use Rattle.ll_tree.specs.Modules.{IsSame, module_changed, without_places}
use Rattle.ll_parser.specs.GrammarItems.{IsModule}
use Rattle.ll_texts.specs.TextRules.{IsModuleText}
use Rattle.ll_one_module.specs.Numbers.{to_table}
use Rattle.ll_one_module.proofs.OneModule.{modules-one}
use Rattle.ll_print_back.specs.Laws.{PrintedModulesAreThemselves, TextsHaveOneModule, renumbered}
use Rattle.ll_print_back.proofs.ModulesBack.{read-back}

pub one-module : TextsHaveOneModule
one-module text m other is too =
    let whole = one_reading (length text) text [] [] is.tokens too.tokens is.are_tokens no_token_at_end too.are_tokens no_token_at_end in
    modules-one too.tokens m other (subst (λ ts. IsModule ts m) whole.0 is.reads) too.reads

-- the table of names stays as it is without places
same-names : (m n : LlModule) → IsSame m n → m.names ≡ n.names
unfolding without_places
same-names m n same = ap (λ (o : LlModule). o.names) same

pub are-themselves : PrintedModulesAreThemselves
are-themselves text m again is read =
    let (found, same, back) = read-back text m is in
    let one : renumbered again found ≡ found = one-module _ again found read back in
    ap without_places (subst (λ (table : List NameText). module_changed (to_table again.names table) (λ byte. byte) table again ≡ found) (same-names found m same) one) ∙ same
