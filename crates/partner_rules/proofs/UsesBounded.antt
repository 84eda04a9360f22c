-- The ids that the instructions of a kernel's module use are below its bound.
use Rattle.std.proofs.Common.{◌≡◌, ℕ, ◌+◌, ◌<◌, Bool, false, List, [], ◌∷◌, ◌++◌, refl, ap, ◌∙◌, arith, subst, append-nil}
use Rattle.std.specs.List.{list_any}
use Rattle.std.proofs.lemmas.Bool.Decides.{nat_tests}
use Rattle.std.proofs.lemmas.List.Elements.{recursion_from_All}
use Rattle.spv_codec.specs.declared.module.RawInst.{RawInst}
use Rattle.spv_layout.specs.declared.opcode.Opcode.TheVariants as op
use Rattle.spv_module.specs.Spelled.{entry_spelled, param_spelled, spelled}
use Rattle.spv_module.specs.Woven.{inst_spelled}
use Rattle.kernel_tree.specs.declared.kernel.Kernel.{Kernel}
use Rattle.kernel_tree.specs.declared.kernel.KernelInst.{KernelInst}
use Rattle.kernel_tree.specs.declared.kernel.KernelInst.TheVariants.{Add, Load, Store}
use Rattle.kernel_tree.specs.declared.kernel.KernelParam.{KernelParam}
use Rattle.kernel_tree.specs.declared.names.Use.{Use}
use Rattle.kernel_tree.specs.Names.{used_by, uses}
use Rattle.kernel_tree.specs.Numbered.{IsNumbered, definition_count, number_used}
use Rattle.to_spirv.specs.Limits.{HasPlainName}
use Rattle.to_spirv.specs.Partner.{bound_over, end_of_block, entry_partner, id_of, inst_partner, param_partner, value_type_id}
use Rattle.to_spirv.proofs.SectionLemmas.{function_inst, label_inst}
use Rattle.spv_names.specs.IdRules.{is_outside}
use Rattle.spv_names.specs.Uses.{form_ids}
use Rattle.partner_rules.proofs.Each.{Each, none-more, none-of}
use Rattle.partner_rules.proofs.ModuleParts.{Needed, Neither, ParamInt, ParamPointer, ResultInt, ids_for, types_for, GivesListed, IsBefore, IsListed, TakesBefore, each-part, insts_by}
use Rattle.partner_rules.proofs.UsedIds.{are-ids, each-uses, entry-ids}

pub inside : (bound id : ℕ) → 0 < id → id < bound → is_outside bound id ≡ false
inside bound id some below = grind (arith, nat_tests)

-- the ids that the form of an instruction has are below a bound
abbrev pub UsesWithin : ℕ → RawInst → Type 0
UsesWithin bound inst = (wide : Bool) → list_any (is_outside bound) (form_ids wide inst) ≡ false

module _ (needed : Needed) (kernel : Kernel) where
  abbrev bound : ℕ
  bound = bound_over (ids_for needed) kernel

  abbrev IsInside : ℕ → Type 0
  IsInside id = is_outside (bound_over (ids_for needed) kernel) id ≡ false

  -- the names that are used
  abbrev pub IsCounted : Use → Type 0
  IsCounted used = number_used used < definition_count kernel + 1

  type-inside : (id : ℕ) → 0 < id → id < (ids_for needed).function → IsInside id
  type-inside id some below = inside bound id some (omega arith)

  name-inside : (number : ℕ) → number < definition_count kernel + 1 → IsInside ((ids_for needed).function + number)
  name-inside number counted =
      let are = are-ids needed in
      let void_some = are.void_some in
      let void_type = are.void_type in
      inside bound ((ids_for needed).function + number) (omega arith) (omega arith)

  function-inside : IsInside (ids_for needed).function
  function-inside =
      let are = are-ids needed in
      let void_some = are.void_some in
      let void_type = are.void_type in
      inside bound (ids_for needed).function (omega arith) (omega arith)

  abbrev Within : RawInst → Type 0
  Within inst = UsesWithin (bound_over (ids_for needed) kernel) inst

  two-inside : (first second : ℕ) → IsInside first → IsInside second → list_any (is_outside bound) (first ∷ second ∷ []) ≡ false
  two-inside first second one two = none-more (is_outside bound) first (second ∷ []) one (none-more (is_outside bound) second [] two refl)

  signature-within : (id : ℕ) (types : List ℕ) → Each (IsBefore needed) types → Within (spelled op.TypeFunction (id ∷ 1 ∷ types))
  unfolding form_ids
  signature-within id types before wide =
      none-more (is_outside bound) 1 (types ++ []) (type-inside 1 (omega arith) (omega (arith, (are-ids needed).void_some, (are-ids needed).void_type)))
      (ap (λ ids. list_any (is_outside bound) ids) (append-nil types) ∙ none-of (is_outside bound) types (types-inside types before))
    where
      types-inside : (ids : List ℕ) → Each (IsBefore needed) ids → Each IsInside ids
      types-inside [] all = tt
      types-inside (first ∷ ids) all = (type-inside first (omega (arith, all.0.0)) (omega (arith, all.0.1, (are-ids needed).signature_type)), types-inside ids all.1)

  void-within : Within (spelled op.TypeVoid (1 ∷ []))
  unfolding form_ids
  void-within wide = refl

  int-within : (id : ℕ) → Within (spelled op.TypeInt (id ∷ 32 ∷ 0 ∷ []))
  unfolding form_ids
  int-within id wide = refl

  pointer-within : ParamPointer ≡ needed → Within (spelled op.TypePointer (3 ∷ 5 ∷ 2 ∷ []))
  unfolding form_ids
  pointer-within is wide =
      let far : 2 < (ids_for needed).function = subst (λ (n : Needed). 2 < (ids_for n).function) is (omega arith) in
      none-more (is_outside bound) 2 [] (type-inside 2 (omega arith) far) refl

  types-within : (types : List ℕ) → Each (IsBefore needed) types → Each Within (types_for needed types)
  types-within types before = by needed refl
    where
      by : (n : Needed) → n ≡ needed → Each Within (types_for n types)
      by Neither is = (void-within, (signature-within 2 types before, tt))
      by ResultInt is = (void-within, (signature-within 2 types before, (int-within 3, tt)))
      by ParamInt is = (void-within, (int-within 2, (signature-within 3 types before, tt)))
      by ParamPointer is = (void-within, (int-within 2, (pointer-within is, (signature-within 4 types before, tt))))

  function-within : Within (function_inst (ids_for needed))
  unfolding form_ids
  function-within wide =
      let are = are-ids needed in
      two-inside (ids_for needed).void (ids_for needed).function_type (type-inside (ids_for needed).void are.void_some are.void_type)
      (type-inside (ids_for needed).function_type are.signature_some are.signature_type)

  params-within : (params : List KernelParam) → Each (TakesBefore needed) params → Each (λ param. Within (param_spelled (param_partner (ids_for needed) param))) params
  unfolding form_ids
  params-within [] all = tt
  params-within (param ∷ params) all =
      let type = value_type_id (ids_for needed) param.value_type in
      (λ wide. none-more (is_outside bound) type [] (type-inside type (omega (arith, all.0.0)) (omega (arith, all.0.1, (are-ids needed).signature_type))) refl, params-within params all.1)

  label-within : Within (label_inst (ids_for needed) kernel)
  unfolding form_ids
  label-within wide = refl

  inst-within : (inst : KernelInst) → GivesListed needed inst → Each IsCounted (used_by inst) → Within (inst_spelled (inst_partner (ids_for needed) inst))
  unfolding form_ids
  inst-within (Add sum left right) gives used wide =
      let int = type-inside (ids_for needed).int (are-ids needed).int_some (gives refl) in
      none-more (is_outside bound) (ids_for needed).int (id_of (ids_for needed) left ∷ id_of (ids_for needed) right ∷ []) int
      (two-inside (id_of (ids_for needed) left) (id_of (ids_for needed) right) (name-inside left.number used.0) (name-inside right.number used.1.0))
  inst-within (Load loaded pointer is_aligned) gives used wide =
      two-inside (ids_for needed).int (id_of (ids_for needed) pointer) (type-inside (ids_for needed).int (are-ids needed).int_some (gives refl)) (name-inside pointer.number used.0)
  inst-within (Store value pointer is_aligned) gives used wide =
      two-inside (id_of (ids_for needed) pointer) (id_of (ids_for needed) value) (name-inside pointer.number used.1.0) (name-inside value.number used.0)

  insts-within : (insts : List KernelInst) → Each (GivesListed needed) insts → Each (λ inst. Each IsCounted (used_by inst)) insts
      → Each (λ inst. Within (inst_spelled (inst_partner (ids_for needed) inst))) insts
  insts-within [] gives used = tt
  insts-within (inst ∷ insts) gives used = (inst-within inst gives.0 used.0, insts-within insts gives.1 used.1)

  end-within : Within (inst_spelled end_of_block)
  unfolding form_ids
  end-within wide = refl

  last-within : Within (spelled op.FunctionEnd [])
  unfolding form_ids
  last-within wide = refl

  capability-within : (number : ℕ) → Within (spelled op.Capability (number ∷ []))
  unfolding form_ids
  capability-within number wide = refl

  model-within : Within (spelled op.MemoryModel (2 ∷ 2 ∷ []))
  unfolding form_ids
  model-within wide = refl

  entry-within : HasPlainName kernel → Within (entry_spelled (entry_partner (ids_for needed) kernel))
  entry-within plain wide =
      ap (list_any (is_outside bound)) (entry-ids (ids_for needed) kernel plain wide) ∙ none-more (is_outside bound) (ids_for needed).function [] function-inside refl

pub uses-within : (needed : Needed) (types : List ℕ) (kernel : Kernel) → IsNumbered kernel → HasPlainName kernel → IsListed needed types kernel
    → Each (UsesWithin (bound_over (ids_for needed) kernel)) (insts_by needed types kernel)
uses-within needed types kernel numbered plain listed =
    let counted = each-uses (IsCounted needed kernel) kernel.insts (recursion_from_All (IsCounted needed kernel) (uses kernel) numbered.used) in
    each-part (UsesWithin (bound_over (ids_for needed) kernel)) needed types kernel (record {
      front = (capability-within needed kernel 4, (capability-within needed kernel 6, (model-within needed kernel, (entry-within needed kernel plain, tt))));
      declared = types-within needed kernel types listed.signature;
      head = function-within needed kernel;
      params = params-within needed kernel kernel.params listed.params;
      label = label-within needed kernel;
      insts = insts-within needed kernel kernel.insts listed.insts counted;
      end = end-within needed kernel;
      last = last-within needed kernel;
    })
