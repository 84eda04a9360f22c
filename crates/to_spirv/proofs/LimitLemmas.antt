-- The limits of a kernel's module come down to three numbers.
use Rattle.std.proofs.Common.{◌≡◌, ℕ, List, [], ◌∷◌, ◌++◌, map, length, All, refl, sym, ◌∙◌, ap, subst, arith, append-nil, get_or}
use Rattle.std.specs.Prelude.{◌+◌, ◌/◌, ◌<◌, ◌≤◌, ◌*◌}
use Rattle.std.proofs.lemmas.List.Elements.{All-nil, All-cons, All-head, All-tail, All-weaker, All-append, All-map, All-from_recursion}
use Rattle.std.proofs.lemmas.List.FromFn.{length-map-range_with_len}
use Rattle.spv_codec.specs.declared.module.RawInst.{RawInst}
use Rattle.spv_layout.specs.declared.opcode.Opcode.TheVariants as op
use Rattle.spv_module.specs.Spelled.{spelled, param_spelled, entry_spelled}
use Rattle.spv_module.specs.Sections.{sections, placed, flattened}
use Rattle.spv_module.specs.Texts.{text_words, word_at}
use Rattle.spv_module.specs.Woven.{inst_spelled}
use Rattle.kernel_tree.specs.declared.kernel.Kernel.{Kernel}
use Rattle.kernel_tree.specs.declared.kernel.KernelInst.{KernelInst}
use Rattle.kernel_tree.specs.declared.kernel.KernelInst.TheVariants.{Add, Load, Store}
use Rattle.kernel_tree.specs.Numbered.{name_bytes}
use Rattle.to_spirv.specs.declared.ids.Ids.{Ids}
use Rattle.to_spirv.specs.declared.types.TypesNeeded.{TypesNeeded}
use Rattle.to_spirv.specs.declared.types.TypesNeeded.TheVariants.{Neither, ResultInt, ParamInt, ParamPointer}
use Rattle.to_spirv.specs.KernelTypes.{row_of_params}
use Rattle.to_spirv.specs.ClosedTypes.{ids_by, needed_by}
use Rattle.to_spirv.specs.Limits.{IsShort, IsWithinLimits}
use Rattle.to_spirv.specs.Partner.{bound_of, partner, param_partner, inst_partner, end_of_block, entry_partner}
use Rattle.to_spirv.proofs.SectionLemmas.{param_type_ids, type_insts, front_insts, function_inst, param_insts, label_inst, block_insts, tail_of, all_insts, sections-parts, length-param_types}
use Rattle.to_spirv.proofs.TypeLemmas.{partner-needed}

-- places make no instruction longer
placed-short : (place : ℕ) (insts : List RawInst) → All IsShort insts → All IsShort (placed place insts)
placed-short place [] short = All-nil IsShort
placed-short place (inst ∷ insts) short =
    let next = place + (length inst.operands + 1) in
    All-cons IsShort (record inst { place = place }) (placed next insts) (All-head IsShort inst insts short) (placed-short next insts (All-tail IsShort inst insts short))

short-placed : (place : ℕ) (insts : List RawInst) → All IsShort (placed place insts) → All IsShort insts
short-placed place [] short = All-nil IsShort
short-placed place (inst ∷ insts) short =
    let next = place + (length inst.operands + 1) in
    All-cons IsShort inst insts (All-head IsShort (record inst { place = place }) (placed next insts) short)
    (short-placed next insts (All-tail IsShort (record inst { place = place }) (placed next insts) short))

-- the instructions of a kernel's module
pub partner-parts : (kernel : Kernel) → (needed : TypesNeeded) → needed ≡ needed_by kernel.params kernel.insts
    → sections (partner kernel) ≡ all_insts (ids_by needed) (type_insts needed (param_type_ids needed (row_of_params kernel.params) (row_of_params kernel.params))) kernel
partner-parts kernel needed is =
    ap sections (sym (partner-needed kernel needed (ids_by needed) is refl)) ∙ sections-parts needed kernel

-- how many words an entry point has
pub length-entry : (ids : Ids) (kernel : Kernel) → length (entry_spelled (entry_partner ids kernel)).operands ≡ length (name_bytes kernel) / 4 + 3
length-entry ids kernel =
    let text = name_bytes kernel in
    omega (arith, ap length (append-nil (text_words text)), length-map-range_with_len (λ k. word_at text (4 * k)) 0 (length text / 4 + 1))

types-short : (needed : TypesNeeded) (params : List ℕ) → length params + 3 ≤ 65535 → All IsShort (type_insts needed params)
types-short Neither params few = All-from_recursion IsShort (type_insts Neither params) (omega arith, (omega arith, tt))
types-short ResultInt params few = All-from_recursion IsShort (type_insts ResultInt params) (omega arith, (omega arith, (omega arith, tt)))
types-short ParamInt params few = All-from_recursion IsShort (type_insts ParamInt params) (omega arith, (omega arith, (omega arith, tt)))
types-short ParamPointer params few = All-from_recursion IsShort (type_insts ParamPointer params) (omega arith, (omega arith, (omega arith, (omega arith, tt))))

inst-short : (ids : Ids) (inst : KernelInst) → IsShort (inst_spelled (inst_partner ids inst))
inst-short ids (Add sum left right) = omega arith
inst-short ids (Load loaded pointer is_aligned) = omega arith
inst-short ids (Store value pointer is_aligned) = omega arith

block-short : (ids : Ids) (kernel : Kernel) → All IsShort (block_insts ids kernel)
block-short ids kernel =
    All-map IsShort inst_spelled (map (inst_partner ids) kernel.insts ++ end_of_block ∷ [])
    (All-append (λ i. IsShort (inst_spelled i)) (map (inst_partner ids) kernel.insts) (end_of_block ∷ [])
    (All-map (λ i. IsShort (inst_spelled i)) (inst_partner ids) kernel.insts (λ k d lt. inst-short ids (get_or kernel.insts k d)))
    (All-from_recursion (λ i. IsShort (inst_spelled i)) (end_of_block ∷ []) (omega arith, tt)))

tail-short : (ids : Ids) (kernel : Kernel) → All IsShort (tail_of ids kernel (block_insts ids kernel))
tail-short ids kernel =
    let end : List RawInst = spelled op.FunctionEnd [] ∷ [] in
    let behind = block_insts ids kernel ++ end in
    All-append IsShort (param_insts ids kernel) (label_inst ids kernel ∷ behind)
    (All-map IsShort param_spelled (map (param_partner ids) kernel.params) (λ k d lt. omega arith))
    (All-cons IsShort (label_inst ids kernel) behind (omega arith)
    (All-append IsShort (block_insts ids kernel) end (block-short ids kernel) (All-from_recursion IsShort end (omega arith, tt))))

parts-short : (needed : TypesNeeded) (ids : Ids) (params : List ℕ) (kernel : Kernel) → length (name_bytes kernel) / 4 + 4 ≤ 65535 → length params + 3 ≤ 65535
    → All IsShort (all_insts ids (type_insts needed params) kernel)
parts-short needed ids params kernel name few =
    let entry = length-entry ids kernel in
    let tail = tail_of ids kernel (block_insts ids kernel) in
    All-append IsShort (front_insts ids kernel) (type_insts needed params ++ (function_inst ids ∷ tail))
    (All-from_recursion IsShort (front_insts ids kernel) (omega arith, (omega arith, (omega arith, (omega arith, tt)))))
    (All-append IsShort (type_insts needed params) (function_inst ids ∷ tail) (types-short needed params few)
    (All-cons IsShort (function_inst ids) tail (omega arith) (tail-short ids kernel)))

short-name : (ids : Ids) (types : List RawInst) (kernel : Kernel) → All IsShort (all_insts ids types kernel) → length (name_bytes kernel) / 4 + 4 ≤ 65535
short-name ids types kernel short =
    let entry : RawInst = entry_spelled (entry_partner ids kernel) in
    let here : IsShort entry = short 3 entry (omega arith) in
    omega (arith, length-entry ids kernel)

short-types : (needed : TypesNeeded) (ids : Ids) (params : List ℕ) (kernel : Kernel) → All IsShort (all_insts ids (type_insts needed params) kernel)
    → length params + 3 ≤ 65535
short-types Neither ids params kernel short =
    let here = short 5 (spelled op.Label []) (omega arith) in
    omega arith
short-types ResultInt ids params kernel short =
    let here = short 5 (spelled op.Label []) (omega arith) in
    omega arith
short-types ParamInt ids params kernel short =
    let here = short 6 (spelled op.Label []) (omega arith) in
    omega arith
short-types ParamPointer ids params kernel short =
    let here = short 7 (spelled op.Label []) (omega arith) in
    omega arith

-- the three numbers
pub record AreSmall (kernel : Kernel) : Type 0 where
  pub bound : bound_of kernel ≤ 0x3FFFFF
  pub name : length (name_bytes kernel) / 4 + 4 ≤ 65535
  pub params : length kernel.params + 3 ≤ 65535

pub small-within : (kernel : Kernel) → AreSmall kernel → IsWithinLimits kernel
small-within kernel small =
    let needed = needed_by kernel.params kernel.insts in
    let row = row_of_params kernel.params in
    let count = length-param_types needed row kernel.params in
    let parts = parts-short needed (ids_by needed) (param_type_ids needed row row) kernel small.name (subst (λ (n : ℕ). n + 3 ≤ 65535) (sym count) small.params) in
    record {
      bound = small.bound;
      short = placed-short 5 (sections (partner kernel)) (subst (λ (insts : List RawInst). All IsShort insts) (sym (partner-parts kernel needed refl)) parts);
    }

pub within-small : (kernel : Kernel) → IsWithinLimits kernel → AreSmall kernel
within-small kernel within =
    let needed = needed_by kernel.params kernel.insts in
    let row = row_of_params kernel.params in
    let parts = subst (λ (insts : List RawInst). All IsShort insts) (partner-parts kernel needed refl) (short-placed 5 (sections (partner kernel)) within.short) in
    record {
      bound = within.bound;
      name = short-name (ids_by needed) (type_insts needed (param_type_ids needed row row)) kernel parts;
      params = subst (λ (n : ℕ). n + 3 ≤ 65535) (length-param_types needed row kernel.params) (short-types needed (ids_by needed) (param_type_ids needed row row) kernel parts);
    }

-- such a module can be encoded
pub within-short : (kernel : Kernel) → IsWithinLimits kernel → All (λ inst. length inst.operands < 65535) (flattened (partner kernel)).insts
within-short kernel within = All-weaker IsShort (λ inst. length inst.operands < 65535) (λ inst short. omega arith) (flattened (partner kernel)).insts within.short
