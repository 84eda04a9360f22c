-- What is told of a text that isn't translated is the first break of its rules.
use Rattle.std.proofs.Common.{◌≡◌, ℕ, List, [], ◌∷◌, Option, Some, None, refl, sym, ◌∙◌, ap}
use Rattle.std.specs.Option.{option_map, option_or}
use Rattle.ports.specs.declared.faults.LlFault.{LlFault}
use Rattle.rule_order.specs.Breaks.{RulePlaces, first_in_groups, first_refusal}
use Rattle.rule_order.specs.declared.breaks.Break.{Break}
use Rattle.spv_words.specs.declared.words.Order.{Order}
use Rattle.kernel_rules.specs.Rules.{undefined_at, undefined_names, undefined_places}
use Rattle.kernel_rules.proofs.Rising.{undefined-first}
use Rattle.kernel_tree.specs.declared.kernel.Kernel.{Kernel}
use Rattle.kernel_tree.specs.Covered.{first_undefined}
use Rattle.kernel_translation.specs.Translations.{IsOutside, IsTextOf, IsTranslation, IsUndefinedIn}
use Rattle.kt_driver.specs.declared.refusals.Fault.TheVariants.{Text}
use Rattle.kt_driver.specs.declared.refusals.Refusal.{Refusal}
use Rattle.kt_driver.specs.declared.refusals.Refusal.TheVariants.{TooLong, UndefinedName, Outside, Unreadable, Misframed, Invalid}
use Rattle.kt_driver.specs.declared.request.Format.TheVariants.{Llvm, Spirv}
use Rattle.ll_texts.specs.TextFaults.{IsModuleInput, IsTextFault}
use Rattle.kt_driver.proofs.Refused.{kernel-is-module}
use Rattle.kt_driver.specs.Refusals.{fault_of}
use Rattle.kt_driver.specs.RuleGroups.{AreRules, break_of, outside_subset}
use Rattle.kt_driver.specs.Runs.{IsUntranslatable}

-- the break of a kernel's names
names-told : (input : List ℕ) (kernel : Kernel) → IsTextOf input kernel
    → first_refusal (undefined_names (undefined_places kernel) ∷ []) ≡ option_map undefined_at (first_undefined kernel)
names-told input kernel text = undefined-first input text.tokens kernel text.are_tokens text.reads

some-none : {A : Type 0} (x : A) → Some x ≡ None → ⊥
some-none x e = cc

text-of : (fault other : LlFault) → Text fault ≡ Text other → fault ≡ other
text-of fault other e = cc

module _ (order : Order) (input : List ℕ) (groups : List (List RulePlaces)) (rules : AreRules order input groups) where
  -- where no name is undefined, the rule of names is broken nowhere
  no-names : ((byte : ℕ) → IsUndefinedIn input byte → ⊥) → rules.names ≡ []
  no-names defined = by rules.names refl
    where
      by : (places : List ℕ) → rules.names ≡ places → rules.names ≡ []
      by [] none = none
      by (place ∷ places) some = rules.name_places.of_none none-read
        where
          by_first : (kernel : Kernel) → IsTextOf input kernel → (o : Option ℕ) → first_undefined kernel ≡ o → ⊥
          by_first kernel text (Some byte) is = defined byte (record { source = kernel; text = text; undefined = is })
          by_first kernel text None is =
              let places_are : place ∷ places ≡ undefined_places kernel = sym some ∙ rules.name_places.of_kernel kernel text in
              let told = ap (λ ps. first_refusal (undefined_names ps ∷ [])) places_are ∙ names-told input kernel text ∙ ap (option_map undefined_at) is in
              some-none _ told

          none-read : (kernel : Kernel) → IsTextOf input kernel → ⊥
          none-read kernel text = by_first kernel text (first_undefined kernel) refl

  abbrev groups_of : List RulePlaces → List ℕ → List ℕ → Option Break
  groups_of grammar names outside = first_in_groups (grammar ∷ (undefined_names names ∷ []) ∷ (outside_subset outside ∷ []) ∷ [])

  -- a module's text breaks no rule of the grammar
  no-grammar : IsModuleInput input → groups_of rules.grammar rules.names rules.outside ≡ groups_of [] rules.names rules.outside
  no-grammar is = ap (λ g. groups_of g rules.names rules.outside) (rules.grammar_rules.of_module is)

  first-grammar : (fault : LlFault) → IsTextFault input fault → first_in_groups groups ≡ Some (break_of fault)
  first-grammar fault told = ap first_in_groups rules.are ∙ ap (λ g. groups_of g rules.names rules.outside) (rules.grammar_rules.of_fault fault told)

  first-undefined : (byte : ℕ) → IsUndefinedIn input byte → first_in_groups groups ≡ Some (undefined_at byte)
  first-undefined byte undefined =
      let names = rules.name_places.of_kernel undefined.source undefined.text in
      let told = ap (λ ps. first_refusal (undefined_names ps ∷ [])) names ∙ names-told input undefined.source undefined.text ∙ ap (option_map undefined_at) undefined.undefined in
      ap first_in_groups rules.are ∙ no-grammar (kernel-is-module input undefined.source undefined.text)
      ∙ ap (λ (o : Option Break). option_or o (first_in_groups ((outside_subset rules.outside ∷ []) ∷ []))) told

  first-outside : IsModuleInput input → IsOutside order input → first_in_groups groups ≡ Some (record { rule = 90; place = 0 })
  first-outside is outside =
      ap first_in_groups rules.are ∙ no-grammar is ∙ ap (λ ps. groups_of [] ps rules.outside) (no-names outside.defined)
      ∙ ap (λ ps. groups_of [] [] ps) (rules.outside_places.of_none outside.untranslatable)

  pub refusal-first : (refusal : Refusal) (fault : LlFault) → IsUntranslatable order input refusal → fault_of refusal ≡ Text fault
      → first_in_groups groups ≡ Some (break_of fault)
  refusal-first (TooLong format) fault due is = absurd due
  refusal-first (UndefinedName byte) fault due is =
      first-undefined byte due ∙ ap (λ (f : LlFault). Some (break_of f)) (text-of (record { rule = 20; byte = byte }) fault is)
  refusal-first (Outside Llvm) fault due is = first-outside due.0 due.1 ∙ ap (λ (f : LlFault). Some (break_of f)) (text-of (record { rule = 90; byte = 0 }) fault is)
  refusal-first (Outside Spirv) fault due is = absurd due
  refusal-first (Unreadable other) fault due is = first-grammar other due ∙ ap (λ (f : LlFault). Some (break_of f)) (text-of other fault is)
  refusal-first (Misframed other) fault due is = absurd due
  refusal-first (Invalid other) fault due is = absurd due

  pub translation-breaks-none : (bytes : List ℕ) → IsTranslation order input bytes → first_in_groups groups ≡ None
  translation-breaks-none bytes is =
      let source = is.translatable.canonical.source in
      let text = is.translatable.canonical.text in
      let names = rules.name_places.of_kernel source text in
      let told = ap (λ ps. first_refusal (undefined_names ps ∷ [])) names ∙ names-told input source text ∙ ap (option_map undefined_at) is.translatable.canonical.defined in
      ap first_in_groups rules.are ∙ no-grammar (kernel-is-module input source text)
      ∙ ap (λ (o : Option Break). option_or o (first_in_groups ((outside_subset rules.outside ∷ []) ∷ []))) told
      ∙ ap (λ ps. first_in_groups ((outside_subset ps ∷ []) ∷ [])) (rules.outside_places.of_form is.form is.translatable)
