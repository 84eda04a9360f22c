-- Ids that count up are defined once.
use Rattle.std.proofs.Common.{◌≡◌, ℕ, zero, suc, ◌+◌, ◌-◌, ◌≤◌, Bool, true, false, cond, List, [], ◌∷◌, ◌++◌, length, Option, Some, None, refl, ap, sym, ◌∙◌, arith}
use Rattle.std.specs.Prelude.{◌==◌, ◌||◌, find, flat_map, is_some}
use Rattle.std.specs.List.{range_with_len}
use Rattle.std.specs.Option.{option_to_list}
use Rattle.std.proofs.lemmas.Bool.{or_from}
use Rattle.std.proofs.lemmas.Bool.Decides.{nat_tests}
use Rattle.spv_codec.specs.declared.module.RawInst.{RawInst}
use Rattle.spv_module.specs.Sections.{placed, sections}
use Rattle.to_spirv.specs.Laws.{ids_defined}
use Rattle.to_spirv.specs.Partner.{bound_of, partner}
use Rattle.kernel_tree.specs.declared.kernel.Kernel.{Kernel}
use Rattle.kernel_tree.specs.Numbered.{IsNumbered}
use Rattle.to_spirv.proofs.OrderLemmas.{ids-in_order}
use Rattle.spv_names.specs.Definitions.{defines, result_of}
use Rattle.spv_names.specs.IdRules.{defines_again, is_defined, is_result}
use Rattle.spv_sections.specs.Places.{place_if, places_behind}
use Rattle.spv_codec.specs.Ids.{is_id}
use Rattle.partner_rules.specs.Laws.{IdsAreDefinedOnce}
use Rattle.partner_rules.proofs.Places.{no-place}

-- the ids that are defined, by the result of each instruction
abbrev pub defined_in : List RawInst → List ℕ
defined_in insts = flat_map (λ inst. option_to_list (result_of inst)) insts

defined-placed : (place : ℕ) (insts : List RawInst) → defined_in (placed place insts) ≡ ids_defined insts
unfolding result_of
defined-placed place [] = refl
defined-placed place (inst ∷ insts) = ap (λ ids. option_to_list (result_of inst) ++ ids) (defined-placed (place + (length inst.operands + 1)) insts)

pub defined-more : (before : List RawInst) (inst : RawInst) (id : ℕ) → is_defined (before ++ inst ∷ []) id ≡ (is_defined before id || defines id inst)
defined-more [] inst id = by (defines id inst)
  where
    by : (b : Bool) → is_some (cond b (Some inst) None) ≡ b
    by true = refl
    by false = refl
defined-more (first ∷ before) inst id = by (defines id first) (defined-more before inst id)
  where
    by : (b : Bool) → is_defined (before ++ inst ∷ []) id ≡ (is_defined before id || defines id inst)
        → is_some (cond b (Some first) (find (defines id) (before ++ inst ∷ []))) ≡ (is_some (cond b (Some first) (find (defines id) before)) || defines id inst)
    by true behind = refl
    by false behind = behind

other-id : (r id : ℕ) → r + 1 ≤ id → (r == id) ≡ false
other-id r id less = grind (arith, nat_tests)

-- an id that is counted is the next one, and the others count on
abbrev head : List ℕ → ℕ
head [] = 0
head (n ∷ ns) = n

abbrev behind_head : List ℕ → List ℕ
behind_head [] = []
behind_head (n ∷ ns) = ns

pub record CountsOn (start n r : ℕ) (rest : List ℕ) : Type 0 where
  pub count : ℕ
  pub counts : n ≡ suc count
  pub is : r ≡ start
  pub behind : rest ≡ range_with_len (start + 1) count

pub counts-on : (start n r : ℕ) (rest : List ℕ) → r ∷ rest ≡ range_with_len start n → CountsOn start n r rest
counts-on start zero r rest e = let n = ap length e in absurd (omega arith)
counts-on start (suc n) r rest e = record { count = n; counts = refl; is = ap head e; behind = ap behind_head e }

abbrev NoneFrom : ℕ → List RawInst → Type 0
NoneFrom start before = (id : ℕ) → start ≤ id → is_defined before id ≡ false

once-defined : (before insts : List RawInst) (start n : ℕ) → NoneFrom start before → defined_in insts ≡ range_with_len start n → places_behind defines_again before insts ≡ []
once-defined before [] start n none counted = refl
once-defined before (inst ∷ insts) start n none counted =
    by (result_of inst) refl counted (λ s m. once-defined (before ++ inst ∷ []) insts s m)
  where
    by : (o : Option ℕ) → result_of inst ≡ o → option_to_list (result_of inst) ++ defined_in insts ≡ range_with_len start n
        → ((s m : ℕ) → NoneFrom s (before ++ inst ∷ []) → defined_in insts ≡ range_with_len s m → places_behind defines_again (before ++ inst ∷ []) insts ≡ [])
        → place_if (defines_again before inst) inst.place ++ places_behind defines_again (before ++ inst ∷ []) insts ≡ []
    by None no_result all behind =
        no-place (defines_again before inst) inst.place (places_behind defines_again (before ++ inst ∷ []) insts)
        (ap (is_result (is_defined before)) no_result)
        (behind start n
        (λ id from. defined-more before inst id ∙ or_from (is_defined before id) (defines id inst) (none id from) (ap (is_id id) no_result))
        (sym (ap (λ (o : Option ℕ). option_to_list o ++ defined_in insts) no_result) ∙ all))
    by (Some r) some all behind =
        let counted_on : CountsOn start n r (defined_in insts) = counts-on start n r (defined_in insts) (sym (ap (λ (o : Option ℕ). option_to_list o ++ defined_in insts) some) ∙ all) in
        let is : r ≡ start = counted_on.is in
        no-place (defines_again before inst) inst.place (places_behind defines_again (before ++ inst ∷ []) insts)
        (ap (is_result (is_defined before)) some ∙ none r (omega arith))
        (behind (start + 1) counted_on.count
        (λ id from. defined-more before inst id
        ∙ or_from (is_defined before id) (defines id inst) (none id (omega arith)) (ap (is_id id) some ∙ other-id r id (omega arith)))
        counted_on.behind)

-- those of a kernel's module count from 1
pub partner-defined : (kernel : Kernel) → IsNumbered kernel → defined_in (placed 5 (sections (partner kernel))) ≡ range_with_len 1 (bound_of kernel - 1)
partner-defined kernel numbered = defined-placed 5 (sections (partner kernel)) ∙ ids-in_order kernel numbered

pub partner-once : IdsAreDefinedOnce
partner-once kernel numbered =
    once-defined [] (placed 5 (sections (partner kernel))) 1 (bound_of kernel - 1) (λ id from. refl) (partner-defined kernel numbered)
