-- The ids that the instructions of a kernel's module use are defined, in no other function.
use Rattle.std.proofs.Common.{◌≡◌, ℕ, zero, suc, ◌+◌, ◌-◌, ◌<◌, ◌≤◌, Bool, true, false, List, [], ◌∷◌, ◌++◌, length, Option, Some, None, refl, sym, ap, ◌∙◌, arith, subst, length-append}
use Rattle.std.specs.Prelude.{◌==◌, if◌then◌else◌, nat_le}
use Rattle.std.specs.List.{list_any, range_with_len}
use Rattle.std.specs.Option.{option_to_list}
use Rattle.std.proofs.lemmas.Bool.{not_from_true, or_parts}
use Rattle.std.proofs.lemmas.Bool.Decides.{nat_tests}
use Rattle.spv_codec.specs.Ids.{is_id}
use Rattle.spv_codec.specs.declared.module.RawInst.{RawInst}
use Rattle.spv_layout.specs.declared.opcode.Opcode.TheVariants as op
use Rattle.spv_layout.specs.Forms.{number_of}
use Rattle.spv_module.specs.Sections.{placed, sections}
use Rattle.kernel_tree.specs.declared.kernel.Kernel.{Kernel}
use Rattle.kernel_tree.specs.declared.kernel.KernelInst.{KernelInst}
use Rattle.kernel_tree.specs.declared.kernel.KernelInst.TheVariants.{Add, Load, Store}
use Rattle.kernel_tree.specs.declared.kernel.KernelParam.{KernelParam}
use Rattle.to_spirv.specs.Partner.{bound_of, inst_partner, param_partner, partner}
use Rattle.to_spirv.proofs.SectionLemmas.{block_insts, tail_of}
use Rattle.spv_module.specs.Spelled.{param_spelled}
use Rattle.spv_module.specs.Woven.{inst_spelled}
use Rattle.spv_names.specs.declared.definitions.Definition.{Definition}
use Rattle.spv_names.specs.Definitions.{defines, entry_from, entry_of, function_after, function_behind, home_of, result_of}
use Rattle.spv_names.specs.IdRules.{are_apart, is_elsewhere, is_outside, uses_unknown}
use Rattle.spv_sections.specs.Places.{places_behind}
use Rattle.spv_names.specs.Uses.{form_ids}
use Rattle.spv_names.proofs.Defined.{function-more}
use Rattle.partner_rules.specs.Laws.{IdsAreKnown}
use Rattle.partner_rules.proofs.Each.{Each, never, none-weaker}
use Rattle.partner_rules.proofs.ModuleParts.{IdsOf, Needed, Neither, ParamInt, ParamPointer, ResultInt, ids_for, each-tail, insts_by, of-listed}
use Rattle.partner_rules.proofs.OnceDefined.{counts-on, defined_in, partner-defined}
use Rattle.partner_rules.proofs.Places.{no-place}
use Rattle.partner_rules.proofs.UsedIds.{uses-are}
use Rattle.partner_rules.proofs.UsesBounded.{UsesWithin}
use Rattle.partner_rules.proofs.WithinBound.{placed-within}

-- ids within a bound, and equal ones
outside-not : (bound id : ℕ) → is_outside bound id ≡ false → (0 < id) × (id < bound)
outside-not bound id inside =
    let parts = or_parts (id == 0) (nat_le bound id) inside in
    (above parts.0, below parts.1)
  where
    above : (id == 0) ≡ false → 0 < id
    above e = grind (arith, nat_tests)

    below : nat_le bound id ≡ false → id < bound
    below e = grind (arith, nat_tests)

same-id : (r id : ℕ) → r ≡ id → (r == id) ≡ true
same-id r id is = grind (arith, nat_tests)

other : (r id : ℕ) → (r == id) ≡ false → r ≡ id → ⊥
other r id apart is = never (sym apart ∙ same-id r id is)

rises : (s i : ℕ) → s ≤ i → (s ≡ i → ⊥) → s + 1 ≤ i
rises s i to apart = grind arith

-- an id among those that count up is found
record IsFound (index : ℕ) (function : Option ℕ) (insts : List RawInst) (id : ℕ) : Type 0 where
  definition : Definition
  found : entry_from index function insts id ≡ Some definition

found-ahead : (index : ℕ) (function : Option ℕ) (inst : RawInst) (insts : List RawInst) (id : ℕ) (b : Bool) → defines id inst ≡ b
    → (b ≡ false → IsFound (index + 1) (function_behind index function inst) insts id) → IsFound index function (inst ∷ insts) id
found-ahead index function inst insts id true is behind =
    let here : Definition = record { index = index; function = home_of function inst } in
    record { definition = here; found = ap (λ b. if b then Some here else entry_from (index + 1) (function_behind index function inst) insts id) is }
found-ahead index function inst insts id false is behind =
    let here : Definition = record { index = index; function = home_of function inst } in
    let later = behind refl in
    record {
      definition = later.definition;
      found = ap (λ b. if b then Some here else entry_from (index + 1) (function_behind index function inst) insts id) is ∙ later.found;
    }

found : (index : ℕ) (function : Option ℕ) (insts : List RawInst) (id start n : ℕ) → start ≤ id → id < start + n → defined_in insts ≡ range_with_len start n
    → IsFound index function insts id
found index function [] id start n from below counted = absurd (omega (arith, none n counted))
  where
    none : (m : ℕ) → [] ≡ range_with_len start m → m ≡ 0
    none zero e = refl
    none (suc m) e = let long = ap length e in absurd (omega arith)
found index function (inst ∷ insts) id start n from below counted =
    by (result_of inst) refl counted (λ s m. found (index + 1) (function_behind index function inst) insts id s m)
  where
    by : (o : Option ℕ) → result_of inst ≡ o → option_to_list (result_of inst) ++ defined_in insts ≡ range_with_len start n
        → ((s m : ℕ) → s ≤ id → id < s + m → defined_in insts ≡ range_with_len s m → IsFound (index + 1) (function_behind index function inst) insts id)
        → IsFound index function (inst ∷ insts) id
    by None no_result all behind =
        found-ahead index function inst insts id false (ap (is_id id) no_result)
        (λ e. behind start n from below (sym (ap (λ (o : Option ℕ). option_to_list o ++ defined_in insts) no_result) ∙ all))
    by (Some r) has all behind =
        let counted_on = counts-on start n r (defined_in insts) (sym (ap (λ (o : Option ℕ). option_to_list o ++ defined_in insts) has) ∙ all) in
        let is : r ≡ start = counted_on.is in
        let count : n ≡ suc counted_on.count = counted_on.counts in
        found-ahead index function inst insts id (r == id) (ap (is_id id) has)
        (λ apart. behind (start + 1) counted_on.count (omega (arith, next apart is)) (omega arith) counted_on.behind)
      where
        next : (r == id) ≡ false → r ≡ start → start + 1 ≤ id
        next apart is = rises start id from (λ e. other r id apart (is ∙ e))

-- there is one function, and its place is known
abbrev IsIn : ℕ → Option ℕ → Type 0
IsIn k None = Unit {0}
IsIn k (Some function) = function ≡ k

abbrev begins : RawInst → Bool
begins inst = inst.op == number_of op.Function

abbrev IsOne : ℕ → ℕ → List RawInst → Type 0
IsOne k index [] = Unit {0}
IsOne k index (inst ∷ insts) = (begins inst ≡ true → index ≡ k) × IsOne k (index + 1) insts

in-behind : (k index : ℕ) (function : Option ℕ) (inst : RawInst) → IsIn k function → (begins inst ≡ true → index ≡ k) → IsIn k (function_behind index function inst)
in-behind k index function inst is here = by (begins inst) (inst.op == number_of op.FunctionEnd) here
  where
    by : (b c : Bool) → (b ≡ true → index ≡ k) → IsIn k (if b then Some index else (if c then None else function))
    by true c at = at refl
    by false true at = tt
    by false false at = is

in-home : (k : ℕ) (function : Option ℕ) (inst : RawInst) → IsIn k function → IsIn k (home_of function inst)
in-home k function inst is = by (begins inst)
  where
    by : (b : Bool) → IsIn k (if b then None else function)
    by true = tt
    by false = is

in-entry : (k index : ℕ) (function : Option ℕ) (insts : List RawInst) (id : ℕ) (d : Definition) → IsIn k function → IsOne k index insts
    → entry_from index function insts id ≡ Some d → IsIn k d.function
in-entry k index function [] id d is one e = absurd cc
in-entry k index function (inst ∷ insts) id d is one e =
    by (defines id inst) e (in-entry k (index + 1) (function_behind index function inst) insts id d (in-behind k index function inst is one.0) one.1)
  where
    here : Definition
    here = record { index = index; function = home_of function inst }

    function_or : Option Definition → Option ℕ
    function_or None = None
    function_or (Some definition) = definition.function

    by : (b : Bool) → (if b then Some here else entry_from (index + 1) (function_behind index function inst) insts id) ≡ Some d
        → (entry_from (index + 1) (function_behind index function inst) insts id ≡ Some d → IsIn k d.function) → IsIn k d.function
    by true at behind = subst (IsIn k) (ap function_or at) (in-home k function inst is)
    by false at behind = behind at

together : (k : ℕ) (function other : Option ℕ) → IsIn k function → IsIn k other → are_apart function other ≡ false
together k None other is also = refl
together k (Some f) None is also = refl
together k (Some f) (Some g) is also = not_from_true (f == g) (same-id f g (is ∙ sym also))

-- an id that is known everywhere
abbrev IsKnown : List RawInst → ℕ → ℕ → Type 0
IsKnown all k id = (function : Option ℕ) → IsIn k function → is_elsewhere function (entry_of all id) ≡ false

known : (all : List RawInst) (k bound id : ℕ) → IsOne k 0 all → 0 < bound → defined_in all ≡ range_with_len 1 (bound - 1) → is_outside bound id ≡ false → IsKnown all k id
known all k bound id one some counted inside function is =
    let within = outside-not bound id inside in
    let at = found 0 None all id 1 (bound - 1) (omega (arith, within.0)) (omega (arith, within.1)) counted in
    ap (is_elsewhere function) at.found ∙ together k function at.definition.function is (in-entry k 0 None all id at.definition tt one at.found)

none-unknown : (all : List RawInst) (k bound : ℕ) → ((id : ℕ) → is_outside bound id ≡ false → IsKnown all k id) → (before insts : List RawInst)
    → IsIn k (function_after 0 None before) → IsOne k (length before) insts → Each (UsesWithin bound) insts → places_behind (uses_unknown all) before insts ≡ []
none-unknown all k bound knows before [] is one uses = refl
none-unknown all k bound knows before (inst ∷ insts) is one uses =
    let function = function_after 0 None before in
    let next : length (before ++ inst ∷ []) ≡ length before + 1 = length-append before (inst ∷ []) in
    let count : length before ≡ 0 + length before = omega arith in
    let behind : IsIn k (function_behind (0 + length before) function inst) =
    subst (λ (n : ℕ). IsIn k (function_behind n function inst)) count (in-behind k (length before) function inst is one.0) in
    no-place (uses_unknown all before inst) inst.place (places_behind (uses_unknown all) (before ++ inst ∷ []) insts)
    (uses-are (λ ids. list_any (λ id. is_elsewhere (function_after 0 None before) (entry_of all id)) ids ≡ false) all before inst refl
    (λ wide. none-weaker (is_outside bound) (λ id. is_elsewhere function (entry_of all id)) (λ id inside. knows id inside function is) (form_ids wide inst) (uses.0 wide)))
    (none-unknown all k bound knows (before ++ inst ∷ []) insts (subst (IsIn k) (sym (function-more 0 None before inst)) behind)
    (subst (λ (n : ℕ). IsOne k n insts) (sym next) one.1) uses.1)

-- the module has one function
one-tail : (k index : ℕ) (insts : List RawInst) → Each (λ inst. begins inst ≡ false) insts → IsOne k index insts
one-tail k index [] all = tt
one-tail k index (inst ∷ insts) all = (λ e. never (sym all.0 ∙ e), one-tail k (index + 1) insts all.1)

one-placed : (k index place : ℕ) (insts : List RawInst) → IsOne k index insts → IsOne k index (placed place insts)
one-placed k index place [] one = tt
one-placed k index place (inst ∷ insts) one = (one.0, one-placed k (index + 1) (place + (length inst.operands + 1)) insts one.1)

module _ (ids : IdsOf) where
  params-begin : (params : List KernelParam) → Each (λ param. begins (param_spelled (param_partner ids param)) ≡ false) params
  params-begin [] = tt
  params-begin (param ∷ params) = (refl, params-begin params)

  insts-begin : (insts : List KernelInst) → Each (λ inst. begins (inst_spelled (inst_partner ids inst)) ≡ false) insts
  insts-begin [] = tt
  insts-begin (Add sum left right ∷ insts) = (refl, insts-begin insts)
  insts-begin (Load loaded pointer is_aligned ∷ insts) = (refl, insts-begin insts)
  insts-begin (Store value pointer is_aligned ∷ insts) = (refl, insts-begin insts)

  tail-begins : (kernel : Kernel) → Each (λ inst. begins inst ≡ false) (tail_of ids kernel (block_insts ids kernel))
  tail-begins kernel = each-tail (λ inst. begins inst ≡ false) ids kernel (params-begin kernel.params) refl (insts-begin kernel.insts) refl refl

record HasOne (insts : List RawInst) : Type 0 where
  k : ℕ
  one : IsOne k 0 insts

has-one : (needed : Needed) (types : List ℕ) (kernel : Kernel) → HasOne (insts_by needed types kernel)
has-one Neither types kernel = record {
  k = 6;
  one = (never, (never, (never, (never, (never, (never, (λ e. refl, one-tail 6 7 _ (tail-begins (ids_for Neither) kernel))))))));
}
has-one ResultInt types kernel = record {
  k = 7;
  one = (never, (never, (never, (never, (never, (never, (never, (λ e. refl, one-tail 7 8 _ (tail-begins (ids_for ResultInt) kernel)))))))));
}
has-one ParamInt types kernel = record {
  k = 7;
  one = (never, (never, (never, (never, (never, (never, (never, (λ e. refl, one-tail 7 8 _ (tail-begins (ids_for ParamInt) kernel)))))))));
}
has-one ParamPointer types kernel = record {
  k = 8;
  one = (never, (never, (never, (never, (never, (never, (never, (never, (λ e. refl, one-tail 8 9 _ (tail-begins (ids_for ParamPointer) kernel))))))))));
}

pub partner-known : IdsAreKnown
partner-known kernel numbered plain =
    let insts = sections (partner kernel) in
    let all = placed 5 insts in
    let has : HasOne insts = of-listed (λ bound is. HasOne is) kernel (λ needed types listed. has-one needed types kernel) in
    let one = one-placed has.k 0 5 insts has.one in
    none-unknown all has.k (bound_of kernel) (λ id inside. known all has.k (bound_of kernel) id one (omega arith) (partner-defined kernel numbered) inside)
    [] all tt one (placed-within kernel numbered plain)
