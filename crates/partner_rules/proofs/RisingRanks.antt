-- Sections whose ranks rise.
use Rattle.std.proofs.Common.{◌≡◌, ℕ, ◌+◌, ◌≤◌, Bool, true, false, not, List, [], ◌∷◌, ◌++◌, map, length, Option, Some, None, refl, ap, sym, ◌∙◌, arith, subst}
use Rattle.std.specs.Prelude.{◌||◌, ◌&&◌, nat_lt}
use Rattle.std.specs.List.{list_any}
use Rattle.std.proofs.lemmas.Bool.{and_right, or_parts}
use Rattle.std.proofs.lemmas.Bool.Decides.{nat_tests}
use Rattle.spv_codec.specs.declared.module.RawInst.{RawInst}
use Rattle.spv_layout.specs.declared.opcode.Opcode.TheVariants as op
use Rattle.spv_module.specs.declared.module.Param.{Param}
use Rattle.spv_module.specs.Sections.{placed, sections}
use Rattle.spv_module.specs.Spelled.{param_spelled, spelled}
use Rattle.spv_module.specs.Woven.{inst_spelled}
use Rattle.kernel_tree.specs.declared.kernel.Kernel.{Kernel}
use Rattle.kernel_tree.specs.declared.kernel.KernelInst.{KernelInst}
use Rattle.kernel_tree.specs.declared.kernel.KernelInst.TheVariants.{Add, Load, Store}
use Rattle.kernel_tree.specs.declared.kernel.KernelParam.{KernelParam}
use Rattle.to_spirv.specs.ClosedTypes.{ids_by, needed_where}
use Rattle.to_spirv.specs.Partner.{end_of_block, inst_partner, param_partner, partner}
use Rattle.to_spirv.proofs.SectionLemmas.{block_insts, label_inst, tail_of}
use Rattle.spv_sections.specs.Places.{place_if, places_behind}
use Rattle.spv_sections.specs.SectionOrder.{gives_again, has_begun, is_later, is_misplaced, is_model, rank_behind, rank_in, ranks}
use Rattle.spv_sections.specs.Standing.{begins_functions, standing_of}
use Rattle.spv_sections.proofs.Ranks.{ranks-more}
use Rattle.partner_rules.specs.Laws.{SectionsAreInOrder}
use Rattle.partner_rules.proofs.Places.{no-place}
use Rattle.partner_rules.proofs.Sectioned.{insts_of, of-sections}

-- ranks from one on that don't fall
abbrev Rises : ℕ → List (Option ℕ) → Type 0
Rises low [] = Unit {0}
Rises low (None ∷ rest) = Rises low rest
Rises low (Some rank ∷ rest) = (low ≤ rank) × Rises rank rest

-- ranks up to one
abbrev UpTo : ℕ → List (Option ℕ) → Type 0
UpTo high [] = Unit {0}
UpTo high (None ∷ rest) = UpTo high rest
UpTo high (Some rank ∷ rest) = (rank ≤ high) × UpTo high rest

up-more : (high : ℕ) (xs : List (Option ℕ)) (ys : List (Option ℕ)) → UpTo high xs → UpTo high ys → UpTo high (xs ++ ys)
up-more high [] ys up also = also
up-more high (None ∷ xs) ys up also = up-more high xs ys up also
up-more high (Some rank ∷ xs) ys up also = (up.0, up-more high xs ys up.1 also)

up-higher : (high higher : ℕ) (xs : List (Option ℕ)) → high ≤ higher → UpTo high xs → UpTo higher xs
up-higher high higher [] more up = tt
up-higher high higher (None ∷ xs) more up = up-higher high higher xs more up
up-higher high higher (Some rank ∷ xs) more up = let here : rank ≤ high = up.0 in (omega arith, up-higher high higher xs more up.1)

none-later : (xs : List (Option ℕ)) → list_any (is_later None) xs ≡ false
none-later [] = refl
none-later (None ∷ xs) = none-later xs
none-later (Some rank ∷ xs) = none-later xs

some-later : (low rank : ℕ) (xs : List (Option ℕ)) → low ≤ rank → UpTo low xs → list_any (is_later (Some rank)) xs ≡ false
some-later low rank [] more up = refl
some-later low rank (None ∷ xs) more up = some-later low rank xs more up
some-later low rank (Some other ∷ xs) more up =
    let here : other ≤ low = up.0 in
    ap (λ b. b || list_any (is_later (Some rank)) xs) (test other rank (omega arith)) ∙ some-later low rank xs more up.1
  where
    test : (n m : ℕ) → n ≤ m → nat_lt m n ≡ false
    test n m less = grind (arith, nat_tests)

begun-more : (before : List RawInst) (inst : RawInst) → has_begun (before ++ inst ∷ []) ≡ (has_begun before || begins_functions inst)
begun-more [] inst = or-nothing (begins_functions inst)
  where
    or-nothing : (b : Bool) → (b || false) ≡ b
    or-nothing true = refl
    or-nothing false = refl
begun-more (first ∷ before) inst = by (begins_functions first) (begun-more before inst)
  where
    by : (b : Bool) → has_begun (before ++ inst ∷ []) ≡ (has_begun before || begins_functions inst)
        → (b || has_begun (before ++ inst ∷ [])) ≡ ((b || has_begun before) || begins_functions inst)
    by true behind = refl
    by false behind = behind

-- where ranks rise, no instruction is misplaced
in-order : (before insts : List RawInst) (low : ℕ) → UpTo low (ranks false before) → Rises low (ranks (has_begun before) insts) → places_behind is_misplaced before insts ≡ []
in-order before [] low up rises = refl
in-order before (inst ∷ insts) low up rises = by (rank_behind before inst) refl rises (λ l. in-order (before ++ inst ∷ []) insts l)
  where
    pushed : ranks false (before ++ inst ∷ []) ≡ ranks false before ++ rank_behind before inst ∷ []
    pushed = ranks-more false before inst

    by : (o : Option ℕ) → rank_behind before inst ≡ o → Rises low (rank_behind before inst ∷ ranks (has_begun before || begins_functions inst) insts)
        → ((l : ℕ) → UpTo l (ranks false (before ++ inst ∷ [])) → Rises l (ranks (has_begun (before ++ inst ∷ [])) insts) → places_behind is_misplaced (before ++ inst ∷ []) insts ≡ [])
        → place_if (is_misplaced before inst) inst.place ++ places_behind is_misplaced (before ++ inst ∷ []) insts ≡ []
    by None none all behind =
        let rest : Rises low (ranks (has_begun before || begins_functions inst) insts) =
        subst (λ (o : Option ℕ). Rises low (o ∷ ranks (has_begun before || begins_functions inst) insts)) none all in
        no-place (is_misplaced before inst) inst.place (places_behind is_misplaced (before ++ inst ∷ []) insts)
        (ap (λ (o : Option ℕ). list_any (is_later o) (ranks false before)) none ∙ none-later (ranks false before))
        (behind low
        (subst (UpTo low) (sym pushed) (up-more low (ranks false before) (rank_behind before inst ∷ []) up (subst (λ (o : Option ℕ). UpTo low (o ∷ [])) (sym none) tt)))
        (subst (λ (b : Bool). Rises low (ranks b insts)) (sym (begun-more before inst)) rest))
    by (Some rank) some all behind =
        let rest : (low ≤ rank) × Rises rank (ranks (has_begun before || begins_functions inst) insts) =
        subst (λ (o : Option ℕ). Rises low (o ∷ ranks (has_begun before || begins_functions inst) insts)) some all in
        no-place (is_misplaced before inst) inst.place (places_behind is_misplaced (before ++ inst ∷ []) insts)
        (ap (λ (o : Option ℕ). list_any (is_later o) (ranks false before)) some ∙ some-later low rank (ranks false before) rest.0 up)
        (behind rank
        (subst (UpTo rank) (sym pushed)
        (up-more rank (ranks false before) (rank_behind before inst ∷ []) (up-higher low rank (ranks false before) rest.0 up)
        (subst (λ (o : Option ℕ). UpTo rank (o ∷ [])) (sym some) (omega arith, tt))))
        (subst (λ (b : Bool). Rises rank (ranks b insts)) (sym (begun-more before inst)) rest.1))

-- places don't matter
ranks-placed : (begun : Bool) (place : ℕ) (insts : List RawInst) → ranks begun (placed place insts) ≡ ranks begun insts
unfolding standing_of
ranks-placed begun place [] = refl
ranks-placed begun place (inst ∷ insts) =
    ap (λ rs. rank_in begun (standing_of inst) ∷ rs) (ranks-placed (begun || begins_functions inst) (place + (length inst.operands + 1)) insts)

models-placed : (place : ℕ) (insts : List RawInst) → list_any is_model (placed place insts) ≡ list_any is_model insts
models-placed place [] = refl
models-placed place (inst ∷ insts) = ap (λ b. is_model inst || b) (models-placed (place + (length inst.operands + 1)) insts)

-- no further memory model
no-more : (before insts : List RawInst) → list_any is_model insts ≡ false → places_behind gives_again before insts ≡ []
no-more before [] none = refl
no-more before (inst ∷ insts) none =
    let parts = or_parts (is_model inst) (list_any is_model insts) none in
    no-place (gives_again before inst) inst.place (places_behind gives_again (before ++ inst ∷ []) insts)
    (and_right (list_any is_model before) (is_model inst) parts.0) (no-more (before ++ inst ∷ []) insts parts.1)

-- the function's instructions
params-rise : (params : List Param) (rest : List RawInst) → Rises 11 (ranks true rest) → Rises 11 (ranks true (map param_spelled params ++ rest))
unfolding standing_of
params-rise [] rest rises = rises
params-rise (param ∷ params) rest rises = (omega arith, params-rise params rest rises)

params-plain : (params : List Param) (rest : List RawInst) → list_any is_model rest ≡ false → list_any is_model (map param_spelled params ++ rest) ≡ false
params-plain [] rest none = none
params-plain (param ∷ params) rest none = params-plain params rest none

module _ (pointer : Bool) (params : List KernelParam) (value : Bool) where
  abbrev ended : List KernelInst → List RawInst
  ended insts = map inst_spelled (map (inst_partner (ids_by (needed_where pointer params value))) insts ++ end_of_block ∷ []) ++ (spelled op.FunctionEnd [] ∷ [])

  insts-rise : (insts : List KernelInst) → Rises 11 (ranks true (ended insts))
  unfolding standing_of
  insts-rise [] = (omega arith, (omega arith, tt))
  insts-rise (Add sum left right ∷ insts) = (omega arith, insts-rise insts)
  insts-rise (Load loaded from is_aligned ∷ insts) = (omega arith, insts-rise insts)
  insts-rise (Store stored to is_aligned ∷ insts) = (omega arith, insts-rise insts)

  insts-plain : (insts : List KernelInst) → list_any is_model (ended insts) ≡ false
  insts-plain [] = refl
  insts-plain (Add sum left right ∷ insts) = insts-plain insts
  insts-plain (Load loaded from is_aligned ∷ insts) = insts-plain insts
  insts-plain (Store stored to is_aligned ∷ insts) = insts-plain insts

  abbrev tail : Kernel → List RawInst
  tail kernel = tail_of (ids_by (needed_where pointer params value)) kernel (block_insts (ids_by (needed_where pointer params value)) kernel)

  tail-rises : (kernel : Kernel) → Rises 11 (ranks true (tail kernel))
  unfolding standing_of
  tail-rises kernel =
      params-rise (map (param_partner (ids_by (needed_where pointer params value))) kernel.params)
      (label_inst (ids_by (needed_where pointer params value)) kernel ∷ ended kernel.insts) (omega arith, insts-rise kernel.insts)

  tail-plain : (kernel : Kernel) → list_any is_model (tail kernel) ≡ false
  tail-plain kernel =
      params-plain (map (param_partner (ids_by (needed_where pointer params value))) kernel.params)
      (label_inst (ids_by (needed_where pointer params value)) kernel ∷ ended kernel.insts) (insts-plain kernel.insts)

-- all instructions, which differ in those of the types
all-rise : (pointer : Bool) (params : List KernelParam) (value : Bool) (types : List ℕ) (kernel : Kernel) → Rises 0 (ranks false (insts_of pointer params value types kernel))
unfolding standing_of
all-rise true params value types kernel =
    (omega arith, (omega arith, (omega arith, (omega arith, (omega arith, (omega arith, (omega arith, (omega arith, (omega arith, tail-rises true params value kernel)))))))))
all-rise false (param ∷ params) value types kernel =
    (omega arith, (omega arith, (omega arith, (omega arith, (omega arith, (omega arith, (omega arith, (omega arith, tail-rises false (param ∷ params) value kernel))))))))
all-rise false [] true types kernel =
    (omega arith, (omega arith, (omega arith, (omega arith, (omega arith, (omega arith, (omega arith, (omega arith, tail-rises false [] true kernel))))))))
all-rise false [] false types kernel =
    (omega arith, (omega arith, (omega arith, (omega arith, (omega arith, (omega arith, (omega arith, tail-rises false [] false kernel)))))))

-- behind the memory model there is no other one
record HasModel (insts : List RawInst) : Type 0 where
  first : RawInst
  second : RawInst
  model : RawInst
  rest : List RawInst
  are : insts ≡ first ∷ second ∷ model ∷ rest
  no_first : is_model first ≡ false
  no_second : is_model second ≡ false
  is : is_model model ≡ true
  plain : list_any is_model rest ≡ false

all-plain : (pointer : Bool) (params : List KernelParam) (value : Bool) (types : List ℕ) (kernel : Kernel) → HasModel (insts_of pointer params value types kernel)
all-plain true params value types kernel =
    record { first = _; second = _; model = _; rest = _; are = refl; no_first = refl; no_second = refl; is = refl; plain = tail-plain true params value kernel }
all-plain false (param ∷ params) value types kernel =
    record { first = _; second = _; model = _; rest = _; are = refl; no_first = refl; no_second = refl; is = refl; plain = tail-plain false (param ∷ params) value kernel }
all-plain false [] true types kernel =
    record { first = _; second = _; model = _; rest = _; are = refl; no_first = refl; no_second = refl; is = refl; plain = tail-plain false [] true kernel }
all-plain false [] false types kernel =
    record { first = _; second = _; model = _; rest = _; are = refl; no_first = refl; no_second = refl; is = refl; plain = tail-plain false [] false kernel }

-- one memory model
once : (insts : List RawInst) (place : ℕ) → HasModel insts → places_behind gives_again [] (placed place insts) ≡ []
once insts place has =
    let a = has.first in
    let b = has.second in
    let c = has.model in
    let second = place + (length a.operands + 1) in
    let third = second + (length b.operands + 1) in
    let last = third + (length c.operands + 1) in
    let x : RawInst = record a { place = place } in
    let y : RawInst = record b { place = second } in
    let z : RawInst = record c { place = third } in
    let behind = no-more (x ∷ y ∷ z ∷ []) (placed last has.rest) (models-placed last has.rest ∙ has.plain) in
    ap (λ is. places_behind gives_again [] (placed place is)) has.are
    ∙ no-place (gives_again [] x) place (places_behind gives_again (x ∷ []) (y ∷ z ∷ placed last has.rest)) refl
    (no-place (gives_again (x ∷ []) y) second (places_behind gives_again (x ∷ y ∷ []) (z ∷ placed last has.rest)) (ap (λ t. (t || false) && is_model y) has.no_first)
    (no-place (gives_again (x ∷ y ∷ []) z) third (places_behind gives_again (x ∷ y ∷ z ∷ []) (placed last has.rest))
    (ap (λ t. (t || (is_model y || false)) && is_model z) has.no_first ∙ ap (λ t. (t || false) && is_model z) has.no_second) behind))

there-is : (insts : List RawInst) (place words : ℕ) → HasModel insts → place_if (not (list_any is_model (placed place insts))) words ≡ []
there-is insts place words has =
    ap (λ b. place_if (not b) words)
    (models-placed place insts ∙ ap (list_any is_model) has.are
    ∙ ap (λ t. t || (is_model has.second || (is_model has.model || list_any is_model has.rest))) has.no_first
    ∙ ap (λ t. t || (is_model has.model || list_any is_model has.rest)) has.no_second ∙ ap (λ t. t || list_any is_model has.rest) has.is)

three : (xs ys zs : List ℕ) → xs ≡ [] → ys ≡ [] → zs ≡ [] → xs ++ (ys ++ zs) ≡ []
three xs ys zs first second third = ap (λ l. l ++ (ys ++ zs)) first ∙ ap (λ l. l ++ zs) second ∙ third

pub partner-ordered : SectionsAreInOrder
partner-ordered kernel words =
    let insts = sections (partner kernel) in
    let rises = of-sections (λ is. Rises 0 (ranks false is)) kernel (λ pointer params value types. all-rise pointer params value types kernel) in
    let model = of-sections HasModel kernel (λ pointer params value types. all-plain pointer params value types kernel) in
    three (places_behind is_misplaced [] (placed 5 insts)) (places_behind gives_again [] (placed 5 insts)) (place_if (not (list_any is_model (placed 5 insts))) words)
    (in-order [] (placed 5 insts) 0 tt (subst (Rises 0) (sym (ranks-placed false 5 insts)) rises)) (once insts 5 model) (there-is insts 5 words model)
