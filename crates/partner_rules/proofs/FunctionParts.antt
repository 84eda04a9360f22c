-- The parts of the function of a kernel's module.
use Rattle.std.proofs.Common.{◌≡◌, ℕ, suc, ◌+◌, Bool, true, false, List, [], ◌∷◌, ◌++◌, map, length, replicate, refl, ap, sym, ◌∙◌, append-nil, append_assoc}
use Rattle.std.specs.Prelude.{if◌then◌else◌}
use Rattle.spv_codec.specs.declared.module.RawInst.{RawInst}
use Rattle.spv_layout.specs.declared.opcode.Opcode.TheVariants as op
use Rattle.spv_module.specs.declared.module.Param.{Param}
use Rattle.spv_module.specs.Sections.{flattened, placed, sections}
use Rattle.spv_module.specs.Spelled.{param_spelled, spelled}
use Rattle.spv_module.specs.Woven.{inst_spelled}
use Rattle.kernel_tree.specs.declared.kernel.Kernel.{Kernel}
use Rattle.kernel_tree.specs.declared.kernel.KernelInst.{KernelInst}
use Rattle.kernel_tree.specs.declared.kernel.KernelInst.TheVariants.{Add, Load, Store}
use Rattle.kernel_tree.specs.declared.kernel.KernelParam.{KernelParam}
use Rattle.to_spirv.specs.ClosedTypes.{ids_by, needed_where}
use Rattle.to_spirv.specs.Partner.{end_of_block, inst_partner, param_partner, partner}
use Rattle.to_spirv.proofs.SectionLemmas.{block_insts, function_inst, label_inst, tail_of}
use Rattle.spv_names.specs.declared.functions.Part.TheVariants as part
use Rattle.spv_names.specs.Functions.{Shape, function_list, function_parts, function_section, part_of, parts_of, put_part}
use Rattle.spv_sections.specs.Standing.{begins_functions, standing_of}
use Rattle.spv_names.proofs.FunctionLists.{functions-listed}
use Rattle.partner_rules.specs.Laws.{FunctionsAreListed}
use Rattle.partner_rules.proofs.Sectioned.{insts_of, of-sections}

-- places don't matter
parts-placed : (place : ℕ) (insts : List RawInst) → parts_of (placed place insts) ≡ parts_of insts
unfolding part_of standing_of
parts-placed place [] = refl
parts-placed place (inst ∷ insts) = ap (put_part (part_of inst)) (parts-placed (place + (length inst.operands + 1)) insts)

section-placed : (place : ℕ) (insts : List RawInst) → parts_of (function_section (placed place insts)) ≡ parts_of (function_section insts)
unfolding part_of standing_of
section-placed place [] = refl
section-placed place (inst ∷ insts) = by (begins_functions inst) (section-placed (place + (length inst.operands + 1)) insts)
  where
    by : (b : Bool) → parts_of (function_section (placed (place + (length inst.operands + 1)) insts)) ≡ parts_of (function_section insts)
        → parts_of (if b then placed place (inst ∷ insts) else function_section (placed (place + (length inst.operands + 1)) insts)) ≡ parts_of (if b then inst ∷ insts else function_section insts)
    by true behind = parts-placed place (inst ∷ insts)
    by false behind = behind

params-parts : (params : List Param) (rest : List RawInst) → parts_of (map param_spelled params ++ rest) ≡ replicate (length params) part.Parameter ++ parts_of rest
unfolding part_of standing_of
params-parts [] rest = refl
params-parts (param ∷ params) rest = ap (λ ps. part.Parameter ∷ ps) (params-parts params rest)

length-made : {A B : Type 0} (f : A → B) (xs : List A) → length (map f xs) ≡ length xs
length-made f [] = refl
length-made f (x ∷ xs) = ap suc (length-made f xs)

module _ (pointer : Bool) (params : List KernelParam) (value : Bool) where
  insts-parts : (insts : List KernelInst)
      → parts_of (map inst_spelled (map (inst_partner (ids_by (needed_where pointer params value))) insts ++ end_of_block ∷ []) ++ (spelled op.FunctionEnd [] ∷ []))
      ≡ replicate (length insts) part.Inner ++ (part.Terminator ∷ part.End ∷ [])
  unfolding part_of standing_of
  insts-parts [] = refl
  insts-parts (Add sum left right ∷ insts) = ap (λ ps. part.Inner ∷ ps) (insts-parts insts)
  insts-parts (Load loaded from is_aligned ∷ insts) = ap (λ ps. part.Inner ∷ ps) (insts-parts insts)
  insts-parts (Store stored to is_aligned ∷ insts) = ap (λ ps. part.Inner ∷ ps) (insts-parts insts)

  abbrev function_insts : Kernel → List RawInst
  function_insts kernel =
      function_inst (ids_by (needed_where pointer params value))
      ∷ tail_of (ids_by (needed_where pointer params value)) kernel (block_insts (ids_by (needed_where pointer params value)) kernel)

  abbrev shape_of : Kernel → Shape
  shape_of kernel = record { params = length kernel.params; first = length kernel.insts; others = [] }

  function-is : (kernel : Kernel) → parts_of (function_insts kernel) ≡ function_list (shape_of kernel ∷ [])
  unfolding part_of standing_of
  function-is kernel =
      let made = map (param_partner (ids_by (needed_where pointer params value))) kernel.params in
      let block = label_inst (ids_by (needed_where pointer params value)) kernel ∷ (block_insts (ids_by (needed_where pointer params value)) kernel ++ (spelled op.FunctionEnd [] ∷ [])) in
      let inner = replicate (length kernel.insts) part.Inner in
      ap (λ ps. part.Start ∷ ps)
      (params-parts made block
      ∙ ap (λ n. replicate n part.Parameter ++ parts_of block) (length-made (param_partner (ids_by (needed_where pointer params value))) kernel.params)
      ∙ ap (λ ps. replicate (length kernel.params) part.Parameter ++ (part.Label ∷ ps)) (insts-parts kernel.insts ∙ sym (append_assoc inner (part.Terminator ∷ []) (part.End ∷ []))))
      ∙ sym (append-nil (function_parts (shape_of kernel)))

-- the functions begin behind the types
section-is : (pointer : Bool) (params : List KernelParam) (value : Bool) (types : List ℕ) (kernel : Kernel)
    → function_section (insts_of pointer params value types kernel) ≡ function_insts pointer params value kernel
unfolding standing_of
section-is true params value types kernel = refl
section-is false (param ∷ params) value types kernel = refl
section-is false [] true types kernel = refl
section-is false [] false types kernel = refl

record IsListed (insts : List RawInst) : Type 0 where
  shapes : List Shape
  listed : parts_of (function_section insts) ≡ function_list shapes

pub partner-listed : FunctionsAreListed
partner-listed kernel words =
    let all = of-sections IsListed kernel
    (λ pointer params value types. record {
      shapes = shape_of pointer params value kernel ∷ [];
      listed = ap parts_of (section-is pointer params value types kernel) ∙ function-is pointer params value kernel;
    }) in
    (functions-listed (flattened (partner kernel)).insts words).1 (all.shapes, section-placed 5 (sections (partner kernel)) ∙ all.listed)
