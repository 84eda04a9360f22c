-- The rules that a text may break when it is to be translated, group by group, each with all the places where it is broken. What is told is
-- the break of the first group that has one, at the least place, and there of the least rule.
use Rattle.std.specs.Prelude.{◌≡◌, ℕ, List, [], ◌∷◌}
use Rattle.ports.specs.declared.faults.LlFault.{LlFault}
use Rattle.rule_order.specs.Breaks.{RulePlaces}
use Rattle.rule_order.specs.declared.breaks.Break.{Break}
use Rattle.spv_words.specs.declared.words.Order.{Order}
use Rattle.kernel_rules.specs.Rules.{undefined_names, undefined_places}
use Rattle.kernel_tree.specs.declared.kernel.Kernel.{Kernel}
use Rattle.ll_texts.specs.TextFaults.{IsModuleInput, IsTextFault}
use Rattle.kernel_translation.specs.Translations.{IsTextOf, IsTranslatable}

-- the places where a name is used that is defined nowhere, in the kernel that the input is the text of
pub record HasNamePlaces (input places : List ℕ) : Type 0 where
  pub of_kernel : (kernel : Kernel) → IsTextOf input kernel → places ≡ undefined_places kernel
  pub of_none : ((kernel : Kernel) → IsTextOf input kernel → ⊥) → places ≡ []

-- the first byte, where the input has no translation into this order
pub record HasOutsidePlaces (order : Order) (input places : List ℕ) : Type 0 where
  pub of_form : (form : Kernel) → IsTranslatable order input form → places ≡ []
  pub of_none : ((form : Kernel) → IsTranslatable order input form → ⊥) → places ≡ 0 ∷ []

-- the rule of the grammar that is told of the input, with its place: of the bytes that are no text, or else of the four rules of a text's
-- tokens the one that is broken first
pub record HasGrammarRules (input : List ℕ) (rules : List RulePlaces) : Type 0 where
  pub of_fault : (fault : LlFault) → IsTextFault input fault → rules ≡ record { rule = fault.rule; places = fault.byte ∷ [] } ∷ []
  pub of_module : IsModuleInput input → rules ≡ []

-- the rule of what lies outside the covered subset
abbrev pub outside_subset : List ℕ → RulePlaces
outside_subset places = record { rule = 90; places = places }

-- the grammar comes before names, and names come before the subset
pub record AreRules (order : Order) (input : List ℕ) (groups : List (List RulePlaces)) : Type 0 where
  pub grammar : List RulePlaces
  pub names : List ℕ
  pub outside : List ℕ
  pub grammar_rules : HasGrammarRules input grammar
  pub name_places : HasNamePlaces input names
  pub outside_places : HasOutsidePlaces order input outside
  pub are : groups ≡ grammar ∷ (undefined_names names ∷ []) ∷ (outside_subset outside ∷ []) ∷ []

abbrev pub break_of : LlFault → Break
break_of fault = record { rule = fault.rule; place = fault.byte }
