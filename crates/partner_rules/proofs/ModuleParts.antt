-- The instructions of a kernel's module by the types that it needs.
use Rattle.std.proofs.Common.{◌≡◌, ℕ, ◌<◌, Bool, true, false, List, [], ◌∷◌, ◌++◌, map, refl, sym, ap, ◌∙◌, subst, arith}
use Rattle.std.specs.Prelude.{◌||◌}
use Rattle.std.specs.List.{list_any}
use Rattle.spv_codec.specs.declared.module.RawInst.{RawInst}
use Rattle.spv_layout.specs.declared.opcode.Opcode.TheVariants as op
use Rattle.spv_module.specs.Sections.{sections}
use Rattle.spv_module.specs.Spelled.{id_at, param_spelled, spelled}
use Rattle.spv_module.specs.Woven.{inst_spelled}
use Rattle.kernel_tree.specs.declared.kernel.Kernel.{Kernel}
use Rattle.kernel_tree.specs.declared.kernel.KernelInst.{KernelInst}
use Rattle.kernel_tree.specs.declared.kernel.KernelParam.{KernelParam}
use Rattle.kernel_tree.specs.declared.kernel.ValueType.{ValueType}
use Rattle.kernel_tree.specs.declared.kernel.ValueType.TheVariants.{Int as i32, Pointer as i32_pointer}
use Rattle.to_spirv.specs.ClosedTypes.{has_value, ids_by, is_pointer, listed_by, needed_where, takes_pointer}
use Rattle.to_spirv.specs.KernelTypes.{row_of_params, tree_of}
use Rattle.to_spirv.specs.Partner.{bound_of, bound_over, end_of_block, inst_partner, kernel_ids, named_types, param_partner, partner, value_type_id}
use Rattle.to_spirv.specs.TypeTrees.{TypeRow, place_in}
use Rattle.to_spirv.proofs.LimitLemmas.{partner-parts}
use Rattle.to_spirv.proofs.SectionLemmas.{all_insts, block_insts, front_insts, function_inst, label_inst, param_insts, param_type_ids, tail_of, type_insts}
use Rattle.to_spirv.proofs.TypeLemmas.{kernel_ids-closed}
use Rattle.partner_rules.proofs.Each.{Each, each-append, never}

-- the type of a value, where it can't be named
abbrev pub type_of : {A : Type 0} → A → Type 0
type_of {A} x = A

-- which types the module of a kernel has, besides `void` and the function's: none, that of integers for its results alone, that of integers for
-- its parameters, or that of pointers too
pub data Needed : Type 0 where
  Neither : Needed
  ResultInt : Needed
  ParamInt : Needed
  ParamPointer : Needed

abbrev some_param : KernelParam
some_param = record { value_type = i32; name = record { number = 0; byte = 0 } }

abbrev pub needed_as : Needed → type_of (needed_where true [] true)
needed_as Neither = needed_where false [] false
needed_as ResultInt = needed_where false [] true
needed_as ParamInt = needed_where false (some_param ∷ []) true
needed_as ParamPointer = needed_where true [] true

abbrev needed_for : Bool → List KernelParam → Bool → Needed
needed_for true params has_results = ParamPointer
needed_for false (param ∷ params) has_results = ParamInt
needed_for false [] true = ResultInt
needed_for false [] false = Neither

needed-is : (pointer : Bool) (params : List KernelParam) (has_results : Bool) → needed_where pointer params has_results ≡ needed_as (needed_for pointer params has_results)
needed-is true params has_results = refl
needed-is false (param ∷ params) has_results = refl
needed-is false [] true = refl
needed-is false [] false = refl

abbrev pub IdsOf : Type 0
IdsOf = type_of (ids_by (needed_where true [] true))

abbrev pub ids_for : Needed → IdsOf
ids_for needed = ids_by (needed_as needed)

abbrev pub types_for : Needed → List ℕ → List RawInst
types_for needed types = type_insts (needed_as needed) types

-- the id of a type other than `void` that stands before the function's
abbrev pub IsBefore : Needed → ℕ → Type 0
IsBefore needed id = (1 < id) × (id < (ids_for needed).function_type)

-- parameters have such types
abbrev pub TakesBefore : Needed → KernelParam → Type 0
TakesBefore needed param = IsBefore needed (value_type_id (ids_for needed) param.value_type)

-- where an instruction has a value, the type of integers is one of the types
abbrev pub GivesListed : Needed → KernelInst → Type 0
GivesListed needed inst = has_value inst ≡ true → (ids_for needed).int < (ids_for needed).function

pub record IsListed (needed : Needed) (types : List ℕ) (kernel : Kernel) : Type 0 where
  pub signature : Each (IsBefore needed) types
  pub params : Each (TakesBefore needed) kernel.params
  pub insts : Each (GivesListed needed) kernel.insts

-- parameters
takes-int : (params : List KernelParam) → list_any takes_pointer params ≡ false → Each (TakesBefore ParamInt) params
takes-int [] none = tt
takes-int (param ∷ params) none = by param.value_type none (takes-int params)
  where
    by : (t : ValueType) → (is_pointer t || list_any takes_pointer params) ≡ false → (list_any takes_pointer params ≡ false → Each (TakesBefore ParamInt) params)
        → IsBefore ParamInt (value_type_id (ids_for ParamInt) t) × Each (TakesBefore ParamInt) params
    by i32 none_left behind = ((omega arith, omega arith), behind none_left)
    by i32_pointer none_left behind = never (sym none_left)

takes-any : (params : List KernelParam) → Each (TakesBefore ParamPointer) params
takes-any [] = tt
takes-any (param ∷ params) = (by param.value_type, takes-any params)
  where
    by : (t : ValueType) → IsBefore ParamPointer (value_type_id (ids_for ParamPointer) t)
    by i32 = (omega arith, omega arith)
    by i32_pointer = (omega arith, omega arith)

params-before : (b : Bool) (params : List KernelParam) (has_results : Bool) → list_any takes_pointer params ≡ b → Each (TakesBefore (needed_for b params has_results)) params
params-before true params has_results is = takes-any params
params-before false [] has_results is = tt
params-before false (param ∷ params) has_results is = takes-int (param ∷ params) is

-- and so has the function's type
type-before : (needed : Needed) (row : TypeRow) (t : ValueType) → IsBefore needed (value_type_id (ids_for needed) t)
    → IsBefore needed (id_at (named_types (listed_by (needed_as needed) row)).names (place_in (listed_by (needed_as needed) row) (tree_of t)))
type-before Neither row i32 before = absurd (omega (arith, before.1))
type-before Neither row i32_pointer before = absurd (omega (arith, before.1))
type-before ResultInt row i32 before = absurd (omega (arith, before.1))
type-before ResultInt row i32_pointer before = absurd (omega (arith, before.1))
type-before ParamInt row i32 before = before
type-before ParamInt row i32_pointer before = absurd (omega (arith, before.1))
type-before ParamPointer row i32 before = before
type-before ParamPointer row i32_pointer before = before

types-before : (needed : Needed) (row : TypeRow) (params : List KernelParam) → Each (TakesBefore needed) params
    → Each (IsBefore needed) (param_type_ids (needed_as needed) row (row_of_params params))
types-before needed row [] all = tt
types-before needed row (param ∷ params) all = (type-before needed row param.value_type all.0, types-before needed row params all.1)

-- instructions
gives-none : (needed : Needed) (insts : List KernelInst) → list_any has_value insts ≡ false → Each (GivesListed needed) insts
gives-none needed [] none = tt
gives-none needed (inst ∷ insts) none = by (has_value inst) none (gives-none needed insts)
  where
    by : (b : Bool) → (b || list_any has_value insts) ≡ false → (list_any has_value insts ≡ false → Each (GivesListed needed) insts)
        → (b ≡ true → (ids_for needed).int < (ids_for needed).function) × Each (GivesListed needed) insts
    by true none_left behind = never (sym none_left)
    by false none_left behind = (never, behind none_left)

gives-any : (needed : Needed) → (ids_for needed).int < (ids_for needed).function → (insts : List KernelInst) → Each (GivesListed needed) insts
gives-any needed listed [] = tt
gives-any needed listed (inst ∷ insts) = (λ has. listed, gives-any needed listed insts)

insts-listed : (pointer : Bool) (params : List KernelParam) (b : Bool) (insts : List KernelInst) → list_any has_value insts ≡ b
    → Each (GivesListed (needed_for pointer params b)) insts
insts-listed true params b insts is = gives-any ParamPointer (omega arith) insts
insts-listed false (param ∷ params) b insts is = gives-any ParamInt (omega arith) insts
insts-listed false [] true insts is = gives-any ResultInt (omega arith) insts
insts-listed false [] false insts is = gives-none Neither insts is

abbrev needed_of : Kernel → Needed
needed_of kernel = needed_for (list_any takes_pointer kernel.params) kernel.params (list_any has_value kernel.insts)

is-listed : (kernel : Kernel) → IsListed (needed_of kernel) (param_type_ids (needed_as (needed_of kernel)) (row_of_params kernel.params) (row_of_params kernel.params)) kernel
is-listed kernel =
    let params = params-before (list_any takes_pointer kernel.params) kernel.params (list_any has_value kernel.insts) refl in
    record {
      signature = types-before (needed_of kernel) (row_of_params kernel.params) kernel.params params;
      params = params;
      insts = insts-listed (list_any takes_pointer kernel.params) kernel.params (list_any has_value kernel.insts) kernel.insts refl;
    }

abbrev pub insts_by : Needed → List ℕ → Kernel → List RawInst
insts_by needed types kernel = all_insts (ids_for needed) (types_for needed types) kernel

-- what holds of these holds of the module
pub of-listed : (P : ℕ → List RawInst → Type 0) (kernel : Kernel)
    → ((needed : Needed) (types : List ℕ) → IsListed needed types kernel → P (bound_over (ids_for needed) kernel) (insts_by needed types kernel))
    → P (bound_of kernel) (sections (partner kernel))
of-listed P kernel holds =
    let needed = needed_of kernel in
    let is = needed-is (list_any takes_pointer kernel.params) kernel.params (list_any has_value kernel.insts) in
    let types = param_type_ids (needed_as needed) (row_of_params kernel.params) (row_of_params kernel.params) in
    let ids : kernel_ids kernel ≡ ids_for needed = kernel_ids-closed kernel ∙ ap ids_by is in
    let insts : sections (partner kernel) ≡ insts_by needed types kernel = partner-parts kernel (needed_as needed) (sym is) in
    subst (λ (i : IdsOf). P (bound_over i kernel) (sections (partner kernel))) (sym ids)
    (subst (P (bound_over (ids_for needed) kernel)) (sym insts) (holds needed types (is-listed kernel)))

-- what holds of each part holds of each instruction
pub record EachPart (P : RawInst → Type 0) (needed : Needed) (types : List ℕ) (kernel : Kernel) : Type 0 where
  pub front : Each P (front_insts (ids_for needed) kernel)
  pub declared : Each P (types_for needed types)
  pub head : P (function_inst (ids_for needed))
  pub params : Each (λ param. P (param_spelled (param_partner (ids_for needed) param))) kernel.params
  pub label : P (label_inst (ids_for needed) kernel)
  pub insts : Each (λ inst. P (inst_spelled (inst_partner (ids_for needed) inst))) kernel.insts
  pub end : P (inst_spelled end_of_block)
  pub last : P (spelled op.FunctionEnd [])

module _ (P : RawInst → Type 0) (ids : IdsOf) where
  pub each-param : (params : List KernelParam) → Each (λ param. P (param_spelled (param_partner ids param))) params
      → Each P (map param_spelled (map (param_partner ids) params))
  each-param [] all = tt
  each-param (param ∷ params) all = (all.0, each-param params all.1)

  pub each-inst : (insts : List KernelInst) → Each (λ inst. P (inst_spelled (inst_partner ids inst))) insts → P (inst_spelled end_of_block)
      → Each P (map inst_spelled (map (inst_partner ids) insts ++ end_of_block ∷ []))
  each-inst [] all end = (end, tt)
  each-inst (inst ∷ insts) all end = (all.0, each-inst insts all.1 end)

  pub each-tail : (kernel : Kernel) → Each (λ param. P (param_spelled (param_partner ids param))) kernel.params → P (label_inst ids kernel)
      → Each (λ inst. P (inst_spelled (inst_partner ids inst))) kernel.insts → P (inst_spelled end_of_block) → P (spelled op.FunctionEnd [])
      → Each P (tail_of ids kernel (block_insts ids kernel))
  each-tail kernel params label insts end last =
      let close : List RawInst = spelled op.FunctionEnd [] ∷ [] in
      each-append P (param_insts ids kernel) (label_inst ids kernel ∷ (block_insts ids kernel ++ close)) (each-param kernel.params params)
      (label, each-append P (block_insts ids kernel) close (each-inst kernel.insts insts end) (last, tt))

pub each-part : (P : RawInst → Type 0) (needed : Needed) (types : List ℕ) (kernel : Kernel) → EachPart P needed types kernel → Each P (insts_by needed types kernel)
each-part P needed types kernel parts =
    let ids = ids_for needed in
    let tail = tail_of ids kernel (block_insts ids kernel) in
    each-append P (front_insts ids kernel) (types_for needed types ++ (function_inst ids ∷ tail)) parts.front
    (each-append P (types_for needed types) (function_inst ids ∷ tail) parts.declared
    (parts.head, each-tail P ids kernel parts.params parts.label parts.insts parts.end parts.last))
