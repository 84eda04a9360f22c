-- The module of a kernel has sound ids.
use Rattle.std.proofs.Common.{◌≡◌, ℕ, zero, suc, ◌+◌, List, [], ◌∷◌, ◌++◌, map, length, refl, sym, ◌∙◌, ap, subst, arith, Some, None}
use Rattle.std.specs.Prelude.{flat_map, slice_get}
use Rattle.std.specs.List.{range_with_len}
use Rattle.std.proofs.lemmas.List.{append-nil, append_assoc, length-map, map-append}
use Rattle.std.proofs.lemmas.List.FromFn.{length-map-range_with_len}
use Rattle.kernel_tree.specs.declared.kernel.Kernel.{Kernel}
use Rattle.kernel_tree.specs.declared.kernel.KernelInst.{KernelInst}
use Rattle.kernel_tree.specs.declared.kernel.KernelInst.TheVariants.{Add, Load, Store}
use Rattle.kernel_tree.specs.declared.kernel.KernelParam.{KernelParam}
use Rattle.kernel_tree.specs.Names.{definitions, defined_above, defined_by, param_definition, block_definition}
use Rattle.kernel_tree.specs.Numbered.{IsNumbered, number_defined, definition_count}
use Rattle.to_spirv.specs.KernelTypes.{types_of}
use Rattle.to_spirv.specs.Partner.{end_of_block, ids_over, inst_partner, module_over, param_partner, partner, type_name}
use Rattle.to_spirv.specs.TypeTrees.{TypeTree, entry_of}
use Rattle.to_spirv.proofs.TypeLemmas.{types-before}
use Rattle.spv_canon.specs.Canonical.{ids_in_functions, param_id, results}
use Rattle.spv_canon.specs.Sound.{EachOnce, HasSoundIds}
use Rattle.spv_canon.specs.Trees.{id_of_type, type_ids}
use Rattle.spv_canon.proofs.ListFacts.{some-is}

none-is : {A : Type 0} (x : A) → None ≡ Some x → ⊥
none-is x e = cc

-- numbers that count up
range-get : (start count place id : ℕ) → slice_get (range_with_len start count) place ≡ Some id → id ≡ start + place
range-get start zero place id at = absurd (none-is id at)
range-get start (suc count) zero id at = let same = some-is start id at in omega arith
range-get start (suc count) (suc place) id at = let behind = range-get (start + 1) count place id at in omega arith

range-once : (start count : ℕ) → EachOnce (range_with_len start count)
range-once start count i j id at there =
    let first = range-get start count i id at in
    let second = range-get start count j id there in
    omega arith

range-joined : (start first second : ℕ) → range_with_len start first ++ range_with_len (start + first) second ≡ range_with_len start (first + second)
range-joined start zero second = let same : start + 0 ≡ start = omega arith in let count : second ≡ 0 + second = omega arith in ap (λ s. range_with_len s second) same ∙ ap (range_with_len start) count
range-joined start (suc first) second =
    let from : start + suc first ≡ start + 1 + first = omega arith in
    let count : suc (first + second) ≡ suc first + second = omega arith in
    ap (λ s. start ∷ (range_with_len (start + 1) first ++ range_with_len s second)) from
    ∙ ap (λ ns. start ∷ ns) (range-joined (start + 1) first second)
    ∙ ap (range_with_len start) count

range-added : (by start count : ℕ) → map (λ n. by + n) (range_with_len start count) ≡ range_with_len (by + start) count
range-added by start zero = refl
range-added by start (suc count) =
    let next : by + (start + 1) ≡ by + start + 1 = omega arith in
    ap (λ ns. (by + start) ∷ ns) (range-added by (start + 1) count ∙ ap (λ s. range_with_len s count) next)

types-range : (start count : ℕ) → map id_of_type (map type_name (range_with_len start count)) ≡ range_with_len start count
types-range start zero = refl
types-range start (suc count) = ap (λ ns. start ∷ ns) (types-range (start + 1) count)

module _ (listed : List TypeTree) (kernel : Kernel) where
  abbrev behind : ℕ → ℕ
  behind n = (ids_over listed kernel).function + n

  params-ids : (params : List KernelParam)
      → map param_id (map (param_partner (ids_over listed kernel)) params) ≡ map behind (map number_defined (map param_definition params))
  params-ids [] = refl
  params-ids (param ∷ params) = ap (λ ns. behind param.name.number ∷ ns) (params-ids params)

  insts-ids : (insts : List KernelInst)
      → flat_map results (map (inst_partner (ids_over listed kernel)) insts ++ end_of_block ∷ []) ≡ map behind (map number_defined (flat_map defined_by insts))
  insts-ids [] = refl
  insts-ids (Add sum left right ∷ insts) = ap (λ ns. behind sum.number ∷ ns) (insts-ids insts)
  insts-ids (Load loaded pointer is_aligned ∷ insts) = ap (λ ns. behind loaded.number ∷ ns) (insts-ids insts)
  insts-ids (Store value pointer is_aligned ∷ insts) = insts-ids insts

  -- the ids of names count on from that of the function
  function-ids : IsNumbered kernel
      → ids_in_functions (module_over listed (ids_over listed kernel) kernel) ≡ range_with_len (length listed + 1) (definition_count kernel + 1)
  function-ids numbered =
      let F = (ids_over listed kernel).function in
      let params = map param_definition kernel.params in
      let values = flat_map defined_by kernel.insts in
      let above : map behind (map number_defined (defined_above kernel)) ≡ map behind (map number_defined params) ++ (behind kernel.block.number ∷ []) =
      ap (map behind) (map-append number_defined params (block_definition kernel.block ∷ [])) ∙ map-append behind (map number_defined params) (kernel.block.number ∷ []) in
      let all : map behind (map number_defined (definitions kernel)) ≡ map behind (map number_defined params) ++ (behind kernel.block.number ∷ map behind (map number_defined values)) =
      ap (map behind) (map-append number_defined (defined_above kernel) values)
      ∙ map-append behind (map number_defined (defined_above kernel)) (map number_defined values)
      ∙ ap (λ ns. ns ++ map behind (map number_defined values)) above
      ∙ append_assoc (map behind (map number_defined params)) (behind kernel.block.number ∷ []) (map behind (map number_defined values)) in
      let insts = flat_map results (map (inst_partner (ids_over listed kernel)) kernel.insts ++ end_of_block ∷ []) in
      let front = map param_id (map (param_partner (ids_over listed kernel)) kernel.params) in
      let from : F + 1 ≡ F + 1 = refl in
      let count : suc (definition_count kernel) ≡ definition_count kernel + 1 = omega arith in
      append-nil (F ∷ (front ++ (behind kernel.block.number ∷ insts ++ [])))
      ∙ ap (λ ns. F ∷ (front ++ ns)) (append-nil (behind kernel.block.number ∷ insts))
      ∙ ap (λ ns. F ∷ (ns ++ (behind kernel.block.number ∷ insts))) (params-ids kernel.params)
      ∙ ap (λ ns. F ∷ (map behind (map number_defined params) ++ (behind kernel.block.number ∷ ns))) (insts-ids kernel.insts)
      ∙ ap (λ ns. F ∷ ns) (sym all)
      ∙ ap (λ ns. F ∷ map behind ns) numbered.defined
      ∙ ap (λ ns. F ∷ ns) (range-added F 1 (definition_count kernel))
      ∙ ap (range_with_len F) count

-- the ids of a module count from 1
pub ids-range : (kernel : Kernel) → IsNumbered kernel
    → type_ids (partner kernel).types ++ ids_in_functions (partner kernel) ≡ range_with_len 1 (length (types_of kernel) + (definition_count kernel + 1))
ids-range kernel numbered =
    let count = length (types_of kernel) in
    let from : 1 + count ≡ count + 1 = omega arith in
    ap (λ ns. ns ++ ids_in_functions (partner kernel)) (types-range 1 count)
    ∙ ap (λ ns. range_with_len 1 count ++ ns) (function-ids (types_of kernel) kernel numbered ∙ ap (λ s. range_with_len s (definition_count kernel + 1)) (sym from))
    ∙ range-joined 1 count (definition_count kernel + 1)

pub partner-sound : (kernel : Kernel) → IsNumbered kernel → HasSoundIds (partner kernel)
partner-sound kernel numbered =
    let listed = types_of kernel in
    let count = length listed in
    record {
      once = subst EachOnce (sym (ids-range kernel numbered)) (range-once 1 (count + (definition_count kernel + 1)));
      named = length-map-range_with_len type_name 1 count ∙ sym (length-map listed (entry_of listed));
      parts = types-before kernel;
      labels = (refl, tt);
    }
