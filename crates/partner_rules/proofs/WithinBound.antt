-- The ids of a kernel's module are within its bound.
use Rattle.std.proofs.Common.{◌≡◌, ℕ, suc, ◌+◌, ◌-◌, ◌<◌, ◌≤◌, false, List, [], ◌∷◌, ◌++◌, Option, Some, None, refl, sym, ap, ◌∙◌, arith}
use Rattle.std.specs.List.{list_any, range_with_len}
use Rattle.std.specs.Option.{option_to_list}
use Rattle.std.proofs.lemmas.Bool.{or_from}
use Rattle.spv_codec.specs.declared.module.RawInst.{RawInst}
use Rattle.spv_module.specs.Sections.{placed, sections}
use Rattle.kernel_tree.specs.declared.kernel.Kernel.{Kernel}
use Rattle.kernel_tree.specs.Numbered.{IsNumbered}
use Rattle.to_spirv.specs.Limits.{HasPlainName}
use Rattle.to_spirv.specs.Partner.{bound_of, partner}
use Rattle.spv_names.specs.Definitions.{result_of}
use Rattle.spv_names.specs.IdRules.{has_outside, is_outside, is_result}
use Rattle.spv_sections.specs.Places.{places_behind}
use Rattle.spv_names.specs.Uses.{form_ids, uses_of}
use Rattle.partner_rules.specs.Laws.{IdsAreWithinBound}
use Rattle.partner_rules.proofs.Each.{Each, each-placed}
use Rattle.partner_rules.proofs.ModuleParts.{of-listed}
use Rattle.partner_rules.proofs.OnceDefined.{counts-on, defined_in, partner-defined}
use Rattle.partner_rules.proofs.Places.{no-place}
use Rattle.partner_rules.proofs.UsedIds.{uses-are}
use Rattle.partner_rules.proofs.UsesBounded.{UsesWithin, inside, uses-within}

-- results that count up to a bound
abbrev GivesWithin : ℕ → RawInst → Type 0
GivesWithin bound inst = is_result (is_outside bound) (result_of inst) ≡ false

results-within : (bound : ℕ) (insts : List RawInst) (start n : ℕ) → 0 < start → start + n ≤ bound → defined_in insts ≡ range_with_len start n → Each (GivesWithin bound) insts
results-within bound [] start n some below counted = tt
results-within bound (inst ∷ insts) start n some below counted = by (result_of inst) refl counted (results-within bound insts)
  where
    by : (o : Option ℕ) → result_of inst ≡ o → option_to_list (result_of inst) ++ defined_in insts ≡ range_with_len start n
        → ((s m : ℕ) → 0 < s → s + m ≤ bound → defined_in insts ≡ range_with_len s m → Each (GivesWithin bound) insts)
        → (is_result (is_outside bound) (result_of inst) ≡ false) × Each (GivesWithin bound) insts
    by None no_result all behind = (
      ap (is_result (is_outside bound)) no_result,
      behind start n some below (sym (ap (λ (o : Option ℕ). option_to_list o ++ defined_in insts) no_result) ∙ all),
    )
    by (Some r) has all behind =
        let counted_on = counts-on start n r (defined_in insts) (sym (ap (λ (o : Option ℕ). option_to_list o ++ defined_in insts) has) ∙ all) in
        let count : n ≡ suc counted_on.count = counted_on.counts in (
          ap (is_result (is_outside bound)) has ∙ inside bound r (omega (arith, counted_on.is)) (omega (arith, counted_on.is)),
          behind (start + 1) counted_on.count (omega arith) (omega arith) counted_on.behind,
        )

none-outside : (all : List RawInst) (bound : ℕ) (before insts : List RawInst) → Each (GivesWithin bound) insts → Each (UsesWithin bound) insts
    → places_behind (has_outside all bound) before insts ≡ []
none-outside all bound before [] gives uses = refl
none-outside all bound before (inst ∷ insts) gives uses =
    no-place (has_outside all bound before inst) inst.place (places_behind (has_outside all bound) (before ++ inst ∷ []) insts)
    (or_from (is_result (is_outside bound) (result_of inst)) (list_any (is_outside bound) (uses_of all before inst)) gives.0
    (uses-are (λ ids. list_any (is_outside bound) ids ≡ false) all before inst refl uses.0))
    (none-outside all bound (before ++ inst ∷ []) insts gives.1 uses.1)

-- places don't matter
within-placed : (bound : ℕ) (inst : RawInst) (place : ℕ) → UsesWithin bound inst → UsesWithin bound (record inst { place = place })
unfolding form_ids
within-placed bound inst place within = within

pub placed-within : (kernel : Kernel) → IsNumbered kernel → HasPlainName kernel → Each (UsesWithin (bound_of kernel)) (placed 5 (sections (partner kernel)))
placed-within kernel numbered plain =
    each-placed (UsesWithin (bound_of kernel)) (within-placed (bound_of kernel)) 5 (sections (partner kernel))
    (of-listed (λ bound insts. Each (UsesWithin bound) insts) kernel (λ needed types listed. uses-within needed types kernel numbered plain listed))

pub partner-bounded : IdsAreWithinBound
partner-bounded kernel numbered plain =
    let insts = placed 5 (sections (partner kernel)) in
    none-outside insts (bound_of kernel) [] insts
    (results-within (bound_of kernel) insts 1 (bound_of kernel - 1) (omega arith) (omega arith) (partner-defined kernel numbered))
    (placed-within kernel numbered plain)
