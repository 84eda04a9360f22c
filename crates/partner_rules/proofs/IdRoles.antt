-- The ids that the instructions of a kernel's module use have the roles that are asked.
use Rattle.std.proofs.Common.{◌≡◌, ℕ, ◌+◌, ◌<◌, Bool, false, List, [], ◌∷◌, ◌++◌, All, refl, ap, ◌∙◌, arith, subst}
use Rattle.std.specs.Prelude.{◌||◌}
use Rattle.std.proofs.lemmas.Bool.{or_from}
use Rattle.std.proofs.lemmas.List.Elements.{recursion_from_All}
use Rattle.spv_codec.specs.declared.module.RawInst.{RawInst}
use Rattle.spv_layout.specs.declared.opcode.Opcode.TheVariants as op
use Rattle.spv_module.specs.Sections.{placed}
use Rattle.spv_module.specs.Spelled.{entry_spelled, param_spelled, spelled}
use Rattle.spv_module.specs.Woven.{inst_spelled}
use Rattle.kernel_tree.specs.declared.kernel.Kernel.{Kernel}
use Rattle.kernel_tree.specs.declared.kernel.KernelInst.{KernelInst}
use Rattle.kernel_tree.specs.declared.kernel.KernelInst.TheVariants.{Add, Load, Store}
use Rattle.kernel_tree.specs.declared.kernel.KernelParam.{KernelParam}
use Rattle.kernel_tree.specs.Names.{used_by, uses}
use Rattle.to_spirv.specs.Limits.{HasPlainName}
use Rattle.to_spirv.specs.Partner.{end_of_block, entry_partner, id_of, inst_partner, param_partner, value_type_id}
use Rattle.to_spirv.proofs.SectionLemmas.{function_inst, label_inst}
use Rattle.spv_names.specs.declared.asks.Ask.TheVariants as ask
use Rattle.spv_names.specs.declared.asks.Asks.TheVariants.{Each as EachAsk}
use Rattle.spv_sections.specs.Places.{places_behind}
use Rattle.spv_names.specs.RoleRules.{asks_of, has_other_role, have_other_role, misuses}
use Rattle.spv_names.specs.Uses.{form_ids}
use Rattle.partner_rules.specs.Laws.{IdsHaveTheirRoles, IsValueOf}
use Rattle.partner_rules.proofs.Each.{Each, each-placed}
use Rattle.partner_rules.proofs.ModuleParts.{Needed, Neither, ParamInt, ParamPointer, ResultInt, ids_for, types_for, GivesListed, IsBefore, IsListed, TakesBefore, each-part, insts_by, of-listed}
use Rattle.partner_rules.proofs.Places.{no-place}
use Rattle.partner_rules.proofs.UsedIds.{are-ids, each-uses, entry-ids, uses-are}
use Rattle.partner_rules.proofs.GivenRoles.{KnowsRoles, knows-roles}

-- the ids that an instruction uses have their roles
abbrev KeepsRoles : List RawInst → RawInst → Type 0
KeepsRoles all inst = (wide : Bool) → have_other_role all (asks_of inst) 0 (form_ids wide inst) ≡ false

keeps-placed : (all : List RawInst) (inst : RawInst) (place : ℕ) → KeepsRoles all inst → KeepsRoles all (record inst { place = place })
unfolding form_ids asks_of
keeps-placed all inst place keeps = keeps

module _ (all : List RawInst) (needed : Needed) (kernel : Kernel) (knows : KnowsRoles all needed kernel) where
  each-type : (index : ℕ) (ids : List ℕ) → Each (λ id. id < (ids_for needed).function) ids → have_other_role all (EachAsk ask.TypeRole) index ids ≡ false
  each-type index [] below = refl
  each-type index (id ∷ ids) below =
      or_from (has_other_role all ask.TypeRole id) (have_other_role all (EachAsk ask.TypeRole) (index + 1) ids) (knows.types id below.0) (each-type (index + 1) ids below.1)

  below-all : (ids : List ℕ) → Each (IsBefore needed) ids → Each (λ id. id < (ids_for needed).function) (ids ++ [])
  below-all [] before = tt
  below-all (id ∷ ids) before = (omega (arith, before.0.1, (are-ids needed).signature_type), below-all ids before.1)

  capability-keeps : (number : ℕ) → KeepsRoles all (spelled op.Capability (number ∷ []))
  unfolding form_ids asks_of
  capability-keeps number wide = refl

  model-keeps : KeepsRoles all (spelled op.MemoryModel (2 ∷ 2 ∷ []))
  unfolding form_ids asks_of
  model-keeps wide = refl

  entry-keeps : HasPlainName kernel → KeepsRoles all (entry_spelled (entry_partner (ids_for needed) kernel))
  unfolding asks_of
  entry-keeps plain wide =
      ap (have_other_role all (asks_of (entry_spelled (entry_partner (ids_for needed) kernel))) 0) (entry-ids (ids_for needed) kernel plain wide)
      ∙ or_from (has_other_role all ask.Function (ids_for needed).function) false knows.head refl

  signature-keeps : (id : ℕ) (types : List ℕ) → Each (IsBefore needed) types → KeepsRoles all (spelled op.TypeFunction (id ∷ 1 ∷ types))
  unfolding form_ids asks_of
  signature-keeps id types before wide =
      each-type 0 (1 ∷ (types ++ [])) (omega (arith, (are-ids needed).void_some, (are-ids needed).void_type), below-all types before)

  pointer-keeps : ParamPointer ≡ needed → KeepsRoles all (spelled op.TypePointer (3 ∷ 5 ∷ 2 ∷ []))
  unfolding form_ids asks_of
  pointer-keeps is wide =
      let far : 2 < (ids_for needed).function = subst (λ (n : Needed). 2 < (ids_for n).function) is (omega arith) in
      each-type 0 (2 ∷ []) (far, tt)

  void-keeps : KeepsRoles all (spelled op.TypeVoid (1 ∷ []))
  unfolding form_ids asks_of
  void-keeps wide = refl

  int-keeps : (id : ℕ) → KeepsRoles all (spelled op.TypeInt (id ∷ 32 ∷ 0 ∷ []))
  unfolding form_ids asks_of
  int-keeps id wide = refl

  types-keep : (types : List ℕ) → Each (IsBefore needed) types → Each (KeepsRoles all) (types_for needed types)
  types-keep types before = by needed refl
    where
      by : (n : Needed) → n ≡ needed → Each (KeepsRoles all) (types_for n types)
      by Neither is = (void-keeps, (signature-keeps 2 types before, tt))
      by ResultInt is = (void-keeps, (signature-keeps 2 types before, (int-keeps 3, tt)))
      by ParamInt is = (void-keeps, (int-keeps 2, (signature-keeps 3 types before, tt)))
      by ParamPointer is = (void-keeps, (int-keeps 2, (pointer-keeps is, (signature-keeps 4 types before, tt))))

  function-keeps : KeepsRoles all (function_inst (ids_for needed))
  unfolding form_ids asks_of
  function-keeps wide =
      let are = are-ids needed in
      each-type 0 ((ids_for needed).void ∷ (ids_for needed).function_type ∷ []) (are.void_type, (are.signature_type, tt))

  params-keep : (params : List KernelParam) → Each (TakesBefore needed) params → Each (λ param. KeepsRoles all (param_spelled (param_partner (ids_for needed) param))) params
  unfolding form_ids asks_of
  params-keep [] before = tt
  params-keep (param ∷ params) before =
      let id = value_type_id (ids_for needed) param.value_type in
      (λ wide. or_from (has_other_role all ask.TypeRole id) false (knows.types id (omega (arith, before.0.1, (are-ids needed).signature_type))) refl, params-keep params before.1)

  label-keeps : KeepsRoles all (label_inst (ids_for needed) kernel)
  unfolding form_ids asks_of
  label-keeps wide = refl

  inst-keeps : (inst : KernelInst) → GivesListed needed inst → Each (IsValueOf kernel) (used_by inst) → KeepsRoles all (inst_spelled (inst_partner (ids_for needed) inst))
  unfolding form_ids asks_of
  inst-keeps (Add sum left right) gives used wide =
      let one = id_of (ids_for needed) left in
      let two = id_of (ids_for needed) right in
      or_from (has_other_role all ask.TypeRole (ids_for needed).int) (has_other_role all ask.Value one || (has_other_role all ask.Value two || false)) (knows.types (ids_for needed).int (gives refl))
      (or_from (has_other_role all ask.Value one) (has_other_role all ask.Value two || false) (knows.values left.number used.0.0 used.0.1)
      (or_from (has_other_role all ask.Value two) false (knows.values right.number used.1.0.0 used.1.0.1) refl))
  inst-keeps (Load loaded pointer is_aligned) gives used wide =
      let from = id_of (ids_for needed) pointer in
      or_from (has_other_role all ask.TypeRole (ids_for needed).int) (has_other_role all ask.Value from || false) (knows.types (ids_for needed).int (gives refl))
      (or_from (has_other_role all ask.Value from) false (knows.values pointer.number used.0.0 used.0.1) refl)
  inst-keeps (Store value pointer is_aligned) gives used wide =
      let to = id_of (ids_for needed) pointer in
      let stored = id_of (ids_for needed) value in
      or_from (has_other_role all ask.Value to) (has_other_role all ask.Value stored || false) (knows.values pointer.number used.1.0.0 used.1.0.1)
      (or_from (has_other_role all ask.Value stored) false (knows.values value.number used.0.0 used.0.1) refl)

  insts-keep : (insts : List KernelInst) → Each (GivesListed needed) insts → Each (λ inst. Each (IsValueOf kernel) (used_by inst)) insts
      → Each (λ inst. KeepsRoles all (inst_spelled (inst_partner (ids_for needed) inst))) insts
  insts-keep [] gives used = tt
  insts-keep (inst ∷ insts) gives used = (inst-keeps inst gives.0 used.0, insts-keep insts gives.1 used.1)

  end-keeps : KeepsRoles all (inst_spelled end_of_block)
  unfolding form_ids asks_of
  end-keeps wide = refl

  last-keeps : KeepsRoles all (spelled op.FunctionEnd [])
  unfolding form_ids asks_of
  last-keeps wide = refl

  all-keep : (types : List ℕ) → HasPlainName kernel → All (IsValueOf kernel) (uses kernel) → IsListed needed types kernel → Each (KeepsRoles all) (insts_by needed types kernel)
  all-keep types plain values listed = each-part (KeepsRoles all) needed types kernel (record {
    front = (capability-keeps 4, (capability-keeps 6, (model-keeps, (entry-keeps plain, tt))));
    declared = types-keep types listed.signature;
    head = function-keeps;
    params = params-keep kernel.params listed.params;
    label = label-keeps;
    insts = insts-keep kernel.insts listed.insts (each-uses (IsValueOf kernel) kernel.insts (recursion_from_All (IsValueOf kernel) (uses kernel) values));
    end = end-keeps;
    last = last-keeps;
  })

none-misused : (all before insts : List RawInst) → Each (KeepsRoles all) insts → places_behind (misuses all) before insts ≡ []
none-misused all before [] keep = refl
none-misused all before (inst ∷ insts) keep =
    no-place (misuses all before inst) inst.place (places_behind (misuses all) (before ++ inst ∷ []) insts)
    (uses-are (λ ids. have_other_role all (asks_of inst) 0 ids ≡ false) all before inst refl keep.0)
    (none-misused all (before ++ inst ∷ []) insts keep.1)

pub partner-roles : IdsHaveTheirRoles
partner-roles kernel plain values =
    of-listed (λ bound insts. places_behind (misuses (placed 5 insts)) [] (placed 5 insts) ≡ []) kernel
    (λ needed types listed.
    let insts = insts_by needed types kernel in
    let all = placed 5 insts in
    none-misused all [] all
    (each-placed (KeepsRoles all) (keeps-placed all) 5 insts (all-keep all needed kernel (knows-roles needed types kernel) types plain values listed)))
