-- The ids that the instructions of a kernel's module define, in their order.
use Rattle.std.proofs.Common.{◌≡◌, ℕ, zero, suc, ◌+◌, ◌-◌, List, [], ◌∷◌, ◌++◌, map, refl, sym, ◌∙◌, ap, arith, append-nil}
use Rattle.std.specs.Prelude.{flat_map, None}
use Rattle.std.specs.List.{range_with_len}
use Rattle.std.proofs.lemmas.Grind.{flat_map-append}
use Rattle.spv_codec.specs.declared.module.RawInst.{RawInst}
use Rattle.spv_layout.specs.declared.opcode.Opcode.TheVariants as op
use Rattle.spv_module.specs.Spelled.{spelled, param_spelled}
use Rattle.spv_module.specs.Sections.{sections}
use Rattle.spv_module.specs.Woven.{inst_spelled}
use Rattle.kernel_tree.specs.declared.kernel.Kernel.{Kernel}
use Rattle.kernel_tree.specs.declared.kernel.KernelInst.{KernelInst}
use Rattle.kernel_tree.specs.declared.kernel.KernelInst.TheVariants.{Add, Load, Store}
use Rattle.kernel_tree.specs.declared.kernel.KernelParam.{KernelParam}
use Rattle.kernel_tree.specs.declared.names.Definition.{Definition}
use Rattle.kernel_tree.specs.Names.{definitions, defined_by, param_definition}
use Rattle.kernel_tree.specs.Numbered.{IsNumbered, number_defined, definition_count}
use Rattle.to_spirv.specs.declared.ids.Ids.{Ids}
use Rattle.to_spirv.specs.declared.types.TypesNeeded.{TypesNeeded}
use Rattle.to_spirv.specs.declared.types.TypesNeeded.TheVariants.{Neither, ResultInt, ParamInt, ParamPointer}
use Rattle.to_spirv.specs.KernelTypes.{row_of_params}
use Rattle.to_spirv.specs.ClosedTypes.{ids_by, needed_by}
use Rattle.to_spirv.specs.Laws.{ids_defined}
use Rattle.to_spirv.specs.Partner.{partner, bound_of, bound_over, param_partner, inst_partner, end_of_block}
use Rattle.to_spirv.proofs.LimitLemmas.{partner-parts}
use Rattle.to_spirv.proofs.SectionLemmas.{param_type_ids, type_insts, param_insts, label_inst, block_insts, tail_of, all_insts}
use Rattle.to_spirv.proofs.TypeLemmas.{kernel_ids-closed}

-- the id of a name that is defined
abbrev defined_id : Ids → Definition → ℕ
defined_id ids definition = ids.function + number_defined definition

params-define : (ids : Ids) (params : List KernelParam)
    → ids_defined (map param_spelled (map (param_partner ids) params)) ≡ map (defined_id ids) (map param_definition params)
params-define ids [] = refl
params-define ids (param ∷ params) = ap (λ rest. defined_id ids (param_definition param) ∷ rest) (params-define ids params)

insts-define : (ids : Ids) (insts : List KernelInst)
    → ids_defined (map inst_spelled (map (inst_partner ids) insts ++ end_of_block ∷ [])) ≡ map (defined_id ids) (flat_map defined_by insts)
insts-define ids [] = refl
insts-define ids (Add sum left right ∷ insts) = ap (λ rest. (ids.function + sum.number) ∷ rest) (insts-define ids insts)
insts-define ids (Load loaded pointer is_aligned ∷ insts) = ap (λ rest. (ids.function + loaded.number) ∷ rest) (insts-define ids insts)
insts-define ids (Store value pointer is_aligned ∷ insts) = insts-define ids insts

tail-defines : (ids : Ids) (kernel : Kernel) → ids_defined (tail_of ids kernel (block_insts ids kernel)) ≡ map (defined_id ids) (definitions kernel)
tail-defines ids kernel =
    let block : Definition = record { name = kernel.block; value_type = None } in
    let end : List RawInst = spelled op.FunctionEnd [] ∷ [] in
    let behind = block_insts ids kernel ++ end in
    let values = flat_map defined_by kernel.insts in
    let params = map param_definition kernel.params in
    let of_block : ids_defined behind ≡ map (defined_id ids) values =
    ids-append (block_insts ids kernel) end ∙ append-nil (ids_defined (block_insts ids kernel)) ∙ insts-define ids kernel.insts in
    ids-append (param_insts ids kernel) (label_inst ids kernel ∷ behind)
    ∙ ap (λ front. front ++ (defined_id ids block ∷ ids_defined behind)) (params-define ids kernel.params)
    ∙ ap (λ rest. map (defined_id ids) params ++ (defined_id ids block ∷ rest)) of_block
    ∙ sym (parts params block values)
  where
    ids-append : (first second : List RawInst) → ids_defined (first ++ second) ≡ ids_defined first ++ ids_defined second
    ids-append first second = flat_map-append _ first second

    parts : (params : List Definition) (block : Definition) (values : List Definition)
        → map (defined_id ids) ((params ++ block ∷ []) ++ values) ≡ map (defined_id ids) params ++ (defined_id ids block ∷ map (defined_id ids) values)
    parts [] block values = refl
    parts (param ∷ params) block values = ap (λ rest. defined_id ids param ∷ rest) (parts params block values)

-- numbers in a row, with a number added
range-added : (function start n : ℕ) → map (λ k. function + k) (range_with_len start n) ≡ range_with_len (function + start) n
range-added function start zero = refl
range-added function start (suc n) =
    let next : function + (start + 1) ≡ function + start + 1 = omega arith in
    ap (λ rest. (function + start) ∷ rest) (range-added function (start + 1) n ∙ ap (λ s. range_with_len s n) next)

map-defined : (ids : Ids) (all : List Definition) → map (defined_id ids) all ≡ map (λ k. ids.function + k) (map number_defined all)
map-defined ids [] = refl
map-defined ids (definition ∷ all) = ap (λ rest. defined_id ids definition ∷ rest) (map-defined ids all)

names-define : (ids : Ids) (kernel : Kernel) → IsNumbered kernel
    → ids_defined (tail_of ids kernel (block_insts ids kernel)) ≡ range_with_len (ids.function + 1) (definition_count kernel)
names-define ids kernel numbered =
    tail-defines ids kernel
    ∙ map-defined ids (definitions kernel)
    ∙ ap (map (λ k. ids.function + k)) numbered.defined
    ∙ range-added ids.function 1 (definition_count kernel)

all-define : (needed : TypesNeeded) (params : List ℕ) (kernel : Kernel) → IsNumbered kernel
    → ids_defined (all_insts (ids_by needed) (type_insts needed params) kernel) ≡ range_with_len 1 (bound_over (ids_by needed) kernel - 1)
all-define Neither params kernel numbered =
    let count : suc (suc (suc (definition_count kernel))) ≡ bound_over (ids_by Neither) kernel - 1 = omega arith in
    ap (λ rest. 1 ∷ 2 ∷ 3 ∷ rest) (names-define (ids_by Neither) kernel numbered) ∙ ap (range_with_len 1) count
all-define ResultInt params kernel numbered =
    let count : suc (suc (suc (suc (definition_count kernel)))) ≡ bound_over (ids_by ResultInt) kernel - 1 = omega arith in
    ap (λ rest. 1 ∷ 2 ∷ 3 ∷ 4 ∷ rest) (names-define (ids_by ResultInt) kernel numbered) ∙ ap (range_with_len 1) count
all-define ParamInt params kernel numbered =
    let count : suc (suc (suc (suc (definition_count kernel)))) ≡ bound_over (ids_by ParamInt) kernel - 1 = omega arith in
    ap (λ rest. 1 ∷ 2 ∷ 3 ∷ 4 ∷ rest) (names-define (ids_by ParamInt) kernel numbered) ∙ ap (range_with_len 1) count
all-define ParamPointer params kernel numbered =
    let count : suc (suc (suc (suc (suc (definition_count kernel))))) ≡ bound_over (ids_by ParamPointer) kernel - 1 = omega arith in
    ap (λ rest. 1 ∷ 2 ∷ 3 ∷ 4 ∷ 5 ∷ rest) (names-define (ids_by ParamPointer) kernel numbered) ∙ ap (range_with_len 1) count

pub ids-in_order : (kernel : Kernel) → IsNumbered kernel → ids_defined (sections (partner kernel)) ≡ range_with_len 1 (bound_of kernel - 1)
ids-in_order kernel numbered =
    let needed = needed_by kernel.params kernel.insts in
    let row = row_of_params kernel.params in
    ap ids_defined (partner-parts kernel needed refl)
    ∙ all-define needed (param_type_ids needed row row) kernel numbered
    ∙ ap (λ i. range_with_len 1 (bound_over i kernel - 1)) (sym (kernel_ids-closed kernel))
