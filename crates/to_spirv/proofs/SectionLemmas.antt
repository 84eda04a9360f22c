-- The instructions of a kernel's module in the order of its sections.
use Rattle.std.proofs.Common.{◌≡◌, ℕ, suc, List, [], ◌∷◌, ◌++◌, map, length, refl, ◌∙◌, ap, append-nil}
use Rattle.std.proofs.lemmas.List.{length-map}
use Rattle.spv_codec.specs.declared.module.RawInst.{RawInst}
use Rattle.spv_layout.specs.declared.opcode.Opcode.TheVariants as op
use Rattle.spv_module.specs.Spelled.{spelled, entry_spelled, param_spelled, id_at}
use Rattle.spv_module.specs.Sections.{sections}
use Rattle.spv_module.specs.Woven.{inst_spelled}
use Rattle.kernel_tree.specs.declared.kernel.Kernel.{Kernel}
use Rattle.kernel_tree.specs.declared.kernel.KernelParam.{KernelParam}
use Rattle.to_spirv.specs.declared.ids.Ids.{Ids}
use Rattle.to_spirv.specs.declared.types.TypesNeeded.{TypesNeeded}
use Rattle.to_spirv.specs.declared.types.TypesNeeded.TheVariants.{Neither, ResultInt, ParamInt, ParamPointer}
use Rattle.to_spirv.specs.TypeTrees.{TypeRow, places_in}
use Rattle.to_spirv.specs.KernelTypes.{row_of_params}
use Rattle.to_spirv.specs.ClosedTypes.{listed_by, ids_by}
use Rattle.to_spirv.specs.Partner.{named_types, id_of, param_partner, inst_partner, end_of_block, entry_partner, module_over}

-- the ids of the parameters' types, as the type of the function has them
abbrev pub param_type_ids : TypesNeeded → TypeRow → TypeRow → List ℕ
param_type_ids needed row params = map (id_at (named_types (listed_by needed row)).names) (places_in (listed_by needed row) params)

-- the instructions of the types
abbrev pub type_insts : TypesNeeded → List ℕ → List RawInst
type_insts Neither params = spelled op.TypeVoid (1 ∷ []) ∷ spelled op.TypeFunction (2 ∷ 1 ∷ params) ∷ []
type_insts ResultInt params = spelled op.TypeVoid (1 ∷ []) ∷ spelled op.TypeFunction (2 ∷ 1 ∷ params) ∷ spelled op.TypeInt (3 ∷ 32 ∷ 0 ∷ []) ∷ []
type_insts ParamInt params = spelled op.TypeVoid (1 ∷ []) ∷ spelled op.TypeInt (2 ∷ 32 ∷ 0 ∷ []) ∷ spelled op.TypeFunction (3 ∷ 1 ∷ params) ∷ []
type_insts ParamPointer params =
    spelled op.TypeVoid (1 ∷ []) ∷ spelled op.TypeInt (2 ∷ 32 ∷ 0 ∷ []) ∷ spelled op.TypePointer (3 ∷ 5 ∷ 2 ∷ []) ∷ spelled op.TypeFunction (4 ∷ 1 ∷ params) ∷ []

-- those before the types
abbrev pub front_insts : Ids → Kernel → List RawInst
front_insts ids kernel =
    spelled op.Capability (4 ∷ []) ∷ spelled op.Capability (6 ∷ []) ∷ spelled op.MemoryModel (2 ∷ 2 ∷ []) ∷ entry_spelled (entry_partner ids kernel) ∷ []

abbrev pub function_inst : Ids → RawInst
function_inst ids = spelled op.Function (ids.void ∷ ids.function ∷ 0 ∷ ids.function_type ∷ [])

abbrev pub param_insts : Ids → Kernel → List RawInst
param_insts ids kernel = map param_spelled (map (param_partner ids) kernel.params)

abbrev pub label_inst : Ids → Kernel → RawInst
label_inst ids kernel = spelled op.Label (id_of ids kernel.block ∷ [])

abbrev pub block_insts : Ids → Kernel → List RawInst
block_insts ids kernel = map inst_spelled (map (inst_partner ids) kernel.insts ++ end_of_block ∷ [])

-- those of the function behind its first one, where these are the ones behind the label
abbrev pub tail_of : Ids → Kernel → List RawInst → List RawInst
tail_of ids kernel block = param_insts ids kernel ++ (label_inst ids kernel ∷ (block ++ (spelled op.FunctionEnd [] ∷ [])))

abbrev pub all_insts : Ids → List RawInst → Kernel → List RawInst
all_insts ids types kernel = front_insts ids kernel ++ (types ++ (function_inst ids ∷ tail_of ids kernel (block_insts ids kernel)))

function-parts : (ids : Ids) (kernel : Kernel) → tail_of ids kernel (block_insts ids kernel ++ []) ++ [] ≡ tail_of ids kernel (block_insts ids kernel)
function-parts ids kernel =
    append-nil (tail_of ids kernel (block_insts ids kernel ++ [])) ∙ ap (tail_of ids kernel) (append-nil (block_insts ids kernel))

pub sections-parts : (needed : TypesNeeded) (kernel : Kernel)
    → sections (module_over (listed_by needed (row_of_params kernel.params)) (ids_by needed) kernel)
    ≡ all_insts (ids_by needed) (type_insts needed (param_type_ids needed (row_of_params kernel.params) (row_of_params kernel.params))) kernel
sections-parts Neither kernel =
    let row = row_of_params kernel.params in
    ap (λ tail. front_insts (ids_by Neither) kernel ++ (type_insts Neither (param_type_ids Neither row row) ++ (function_inst (ids_by Neither) ∷ tail)))
    (function-parts (ids_by Neither) kernel)
sections-parts ResultInt kernel =
    let row = row_of_params kernel.params in
    ap (λ tail. front_insts (ids_by ResultInt) kernel ++ (type_insts ResultInt (param_type_ids ResultInt row row) ++ (function_inst (ids_by ResultInt) ∷ tail)))
    (function-parts (ids_by ResultInt) kernel)
sections-parts ParamInt kernel =
    let row = row_of_params kernel.params in
    ap (λ tail. front_insts (ids_by ParamInt) kernel ++ (type_insts ParamInt (param_type_ids ParamInt row row) ++ (function_inst (ids_by ParamInt) ∷ tail)))
    (function-parts (ids_by ParamInt) kernel)
sections-parts ParamPointer kernel =
    let row = row_of_params kernel.params in
    ap (λ tail. front_insts (ids_by ParamPointer) kernel ++ (type_insts ParamPointer (param_type_ids ParamPointer row row) ++ (function_inst (ids_by ParamPointer) ∷ tail)))
    (function-parts (ids_by ParamPointer) kernel)

-- how many parameters the type of the function has
pub length-param_types : (needed : TypesNeeded) (row : TypeRow) (params : List KernelParam)
    → length (param_type_ids needed row (row_of_params params)) ≡ length params
length-param_types needed row params =
    length-map (places_in (listed_by needed row) (row_of_params params)) (id_at (named_types (listed_by needed row)).names) ∙ places params
  where
    places : (ps : List KernelParam) → length (places_in (listed_by needed row) (row_of_params ps)) ≡ length ps
    places [] = refl
    places (p ∷ ps) = ap suc (places ps)
