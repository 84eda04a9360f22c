-- The module of a kernel is that of no other kernel.
use Rattle.std.proofs.Common.{◌≡◌, ℕ, zero, suc, ◌+◌, ◌<◌, Bool, true, false, List, [], ◌∷◌, ◌++◌, map, length, get_or, All, Option, Some, None, refl, sym, ◌∙◌, ap, subst, arith}
use Rattle.std.specs.Prelude.{slice_get, unwrap_or, flat_map}
use Rattle.std.specs.List.{AllZip, range_with_len}
use Rattle.std.proofs.lemmas.Bool.{false≢true}
use Rattle.std.proofs.lemmas.List.Elements.{All-head, All-tail}
use Rattle.std.proofs.lemmas.List.FromFn.{length-map-range_with_len, get_or-map-range_with_len}
use Rattle.std.proofs.lemmas.Option.{slice_get_within, get_or_from_slice_get}
use Rattle.kern_types.specs.declared.ty.Ty.{Ty}
use Rattle.kern_types.specs.declared.ty.Ty.TheVariants as ty
use Rattle.ll_tree.specs.declared.inst.Inst.{Inst}
use Rattle.ll_tree.specs.declared.name.Name.{Name}
use Rattle.ll_tree.specs.declared.value.Value.{Local as local}
use Rattle.spv_layout.specs.declared.opcode.Opcode.TheVariants as op
use Rattle.spv_layout.specs.Forms.{number_of}
use Rattle.spv_module.specs.declared.inst.SpvInst.{SpvInst}
use Rattle.spv_module.specs.declared.module.SpvModule.{SpvModule}
use Rattle.spv_module.specs.declared.types.TypeName.{TypeName}
use Rattle.spv_module.specs.NamedTypes.{NamedTypes}
use Rattle.kernel_tree.specs.declared.kernel.Kernel.{Kernel}
use Rattle.kernel_tree.specs.declared.kernel.KernelInst.{KernelInst}
use Rattle.kernel_tree.specs.declared.kernel.KernelInst.TheVariants.{Add, Load, Store}
use Rattle.kernel_tree.specs.declared.kernel.KernelParam.{KernelParam}
use Rattle.kernel_tree.specs.declared.kernel.ValueType.{ValueType}
use Rattle.kernel_tree.specs.declared.kernel.ValueType.TheVariants.{Int as i32, Pointer as i32_pointer}
use Rattle.kernel_tree.specs.Modules.{text_module, parameter, instruction, end_of_block as text_end, type_of}
use Rattle.kernel_tree.specs.declared.names.Definition.{Definition}
use Rattle.kernel_tree.specs.Names.{defined_by, param_definition}
use Rattle.kernel_tree.specs.Numbered.{IsNumbered, number_defined, definition_count}
use Rattle.to_spirv.specs.declared.ids.Ids.{Ids}
use Rattle.to_spirv.specs.declared.types.TypesNeeded.{TypesNeeded}
use Rattle.to_spirv.specs.declared.types.TypesNeeded.TheVariants.{Neither, ResultInt, ParamInt, ParamPointer}
use Rattle.to_spirv.specs.TypeTrees.{TypeRow}
use Rattle.to_spirv.specs.KernelTypes.{row_of_params}
use Rattle.to_spirv.specs.ClosedTypes.{listed_by, ids_by, needed_by}
use Rattle.to_spirv.specs.Pairing.{HasType, PairsInt, PairsType, Row, row_of, PairsValue, PairsResult, PairsInst, PairsParam, Pairs}
use Rattle.to_spirv.specs.Partner.{type_name, value_type_id, inst_partner, end_of_block, param_partner, module_over, partner}
use Rattle.to_spirv.specs.Ranges.{EachNumber}
use Rattle.to_spirv.specs.SameKernels.{bare_param, bare_inst, IsSameKernel}
use Rattle.to_spirv.proofs.NumberLemmas.{numbered-names}
use Rattle.to_spirv.proofs.PairLemmas.{types_in}
use Rattle.to_spirv.proofs.TypeLemmas.{partner-needed}

-- an id names one type alone
named-place : (count place : ℕ) (name : TypeName) → slice_get (map type_name (range_with_len 1 count)) place ≡ Some name → name.id ≡ place + 1
named-place count place name named =
    let names = map type_name (range_with_len 1 count) in
    let within : place < length names = slice_get_within names place name named in
    let size : length names ≡ count = length-map-range_with_len type_name 1 count in
    let here : get_or names place (type_name 0) ≡ name = get_or_from_slice_get names place name (type_name 0) named in
    let there : get_or names place (type_name 0) ≡ type_name (1 + place) = get_or-map-range_with_len type_name 1 count place (1 + place) (type_name 0) (omega arith) refl in
    let id : name.id ≡ 1 + place = ap (λ n. n.id) (sym here ∙ there) in
    omega arith

type-held : (needed : TypesNeeded) (row : TypeRow) (id place : ℕ) (entry : Ty) → HasType (types_in needed row) id entry → place + 1 ≡ id
    → slice_get (types_in needed row).table.types place ≡ Some entry
type-held needed row id place entry has is =
    let numbered : has.name.id ≡ has.place + 1 = named-place (length (listed_by needed row)) has.place has.name has.named in
    let id_is : has.name.id ≡ id = has.has_id in
    let same : has.place ≡ place = omega arith in
    subst (λ (p : ℕ). slice_get (types_in needed row).table.types p ≡ Some entry) same has.held

abbrev is_int : Option Ty → Bool
is_int (Some (ty.Int width)) = true
is_int other = false

abbrev is_pointer_type : Option Ty → Bool
is_pointer_type (Some (ty.Pointer class to)) = true
is_pointer_type other = false

int-alone : (needed : TypesNeeded) (row : TypeRow) (u : ValueType) → PairsInt (types_in needed row) 32 (value_type_id (ids_by needed) u) → u ≡ i32
int-alone needed row i32 int = refl
int-alone Neither row i32_pointer int = absurd (false≢true (ap is_int (type-held Neither row 3 2 (ty.Int int.width) int.held refl)))
int-alone ResultInt row i32_pointer int = absurd (false≢true (ap is_int (type-held ResultInt row 4 3 (ty.Int int.width) int.held refl)))
int-alone ParamInt row i32_pointer int = absurd (false≢true (ap is_int (type-held ParamInt row 4 3 (ty.Int int.width) int.held refl)))
int-alone ParamPointer row i32_pointer int = absurd (false≢true (ap is_int (type-held ParamPointer row 3 2 (ty.Int int.width) int.held refl)))

pointer-alone : (needed : TypesNeeded) (row : TypeRow) (u : ValueType)
    → PairsType (types_in needed row) (type_of i32_pointer) (value_type_id (ids_by needed) u) → u ≡ i32_pointer
pointer-alone needed row i32_pointer pointer = refl
pointer-alone Neither row i32 pointer =
    absurd (false≢true (ap is_pointer_type (type-held Neither row 3 2 (ty.Pointer pointer.1.class pointer.1.to) pointer.1.held refl)))
pointer-alone ResultInt row i32 pointer =
    absurd (false≢true (ap is_pointer_type (type-held ResultInt row 3 2 (ty.Pointer pointer.1.class pointer.1.to) pointer.1.held refl)))
pointer-alone ParamInt row i32 pointer =
    absurd (false≢true (ap is_pointer_type (type-held ParamInt row 2 1 (ty.Pointer pointer.1.class pointer.1.to) pointer.1.held refl)))
pointer-alone ParamPointer row i32 pointer =
    absurd (false≢true (ap is_pointer_type (type-held ParamPointer row 2 1 (ty.Pointer pointer.1.class pointer.1.to) pointer.1.held refl)))

type-alone : (needed : TypesNeeded) (row : TypeRow) (t u : ValueType) → PairsType (types_in needed row) (type_of t) (value_type_id (ids_by needed) u) → t ≡ u
type-alone needed row i32 u pairs = sym (int-alone needed row u pairs)
type-alone needed row i32_pointer u pairs = sym (pointer-alone needed row u pairs)

-- parameters
abbrev AlikeParams : (ℕ → ℕ) → Ids → KernelParam → KernelParam → Type 0
AlikeParams f ids param other = (param.value_type ≡ other.value_type) × (f param.name.number ≡ ids.function + other.name.number)

params-alike : (f : ℕ → ℕ) (needed : TypesNeeded) (row : TypeRow) (params others : List KernelParam)
    → AllZip (PairsParam f (types_in needed row)) (map parameter params) (map (param_partner (ids_by needed)) others)
    → AllZip (AlikeParams f (ids_by needed)) params others
params-alike f needed row [] [] pairs = tt
params-alike f needed row [] (other ∷ others) pairs = absurd pairs
params-alike f needed row (param ∷ params) [] pairs = absurd pairs
params-alike f needed row (param ∷ params) (other ∷ others) pairs =
    ((type-alone needed row param.value_type other.value_type pairs.0.type, pairs.0.name), params-alike f needed row params others pairs.1)

-- instructions
abbrev AlikeInsts : (ℕ → ℕ) → Ids → KernelInst → KernelInst → Type 0
AlikeInsts f ids (Add sum left right) (Add sum2 left2 right2) =
    (f sum.number ≡ ids.function + sum2.number) × (f left.number ≡ ids.function + left2.number) × (f right.number ≡ ids.function + right2.number)
AlikeInsts f ids (Load loaded pointer is_aligned) (Load loaded2 pointer2 is_aligned2) =
    (f loaded.number ≡ ids.function + loaded2.number) × (f pointer.number ≡ ids.function + pointer2.number)
AlikeInsts f ids (Store value pointer is_aligned) (Store value2 pointer2 is_aligned2) =
    (f value.number ≡ ids.function + value2.number) × (f pointer.number ≡ ids.function + pointer2.number)
AlikeInsts f ids inst other = ⊥

-- what a known row says of a pair
pub record RowFacts (f : ℕ → ℕ) (types : NamedTypes) (row : Row) (name : Option Name) (spv : SpvInst) : Type 0 where
  pub opcode : spv.op ≡ number_of row.opcode
  pub given : PairsResult f types name row.result_type spv
  pub values : AllZip (PairsValue f types) row.values spv.operands.ids
  pub words : spv.operands.words ≡ row.words

pub row-facts : (f : ℕ → ℕ) (types : NamedTypes) (row : Row) (inst : Inst) (spv : SpvInst) → row_of inst.op ≡ Some row → PairsInst f types inst spv
    → RowFacts f types row inst.defines spv
row-facts f types row inst spv is pair =
    let same : pair.found ≡ row = ap (λ o. unwrap_or o row) (sym pair.is ∙ is) in
    let facts : RowFacts f types pair.found inst.defines spv = record { opcode = pair.opcode; given = pair.given; values = pair.values; words = pair.words } in
    subst (λ (r : Row). RowFacts f types r inst.defines spv) same facts

abbrev pub is_known : Option Row → Bool
is_known None = false
is_known (Some row) = true

abbrev pub add_row : Name → Name → Row
add_row left right = record { opcode = op.IAdd; result_type = Some (type_of i32); values = local left ∷ local right ∷ []; words = [] }

abbrev pub load_row : Name → Row
load_row pointer = record { opcode = op.Load; result_type = Some (type_of i32); values = local pointer ∷ []; words = 2 ∷ 4 ∷ [] }

abbrev pub store_row : Name → Name → Row
store_row value pointer = record { opcode = op.Store; result_type = None; values = local pointer ∷ local value ∷ []; words = 2 ∷ 4 ∷ [] }

abbrev pub return_row : Row
return_row = record { opcode = op.Return; result_type = None; values = []; words = [] }

module _ (f : ℕ → ℕ) (ids : Ids) (types : NamedTypes) where
  add-alike : (sum left right : Name) (other : KernelInst) → RowFacts f types (add_row left right) (Some sum) (inst_partner ids other)
      → AlikeInsts f ids (Add sum left right) other
  add-alike sum left right (Add sum2 left2 right2) facts = (facts.given.1, facts.values.0, facts.values.1.0)
  add-alike sum left right (Load loaded pointer is_aligned) facts = let ops = facts.opcode in absurd (omega arith)
  add-alike sum left right (Store value pointer is_aligned) facts = let ops = facts.opcode in absurd (omega arith)

  load-alike : (loaded pointer : Name) (other : KernelInst) → RowFacts f types (load_row pointer) (Some loaded) (inst_partner ids other)
      → AlikeInsts f ids (Load loaded pointer true) other
  load-alike loaded pointer (Load loaded2 pointer2 is_aligned) facts = (facts.given.1, facts.values.0)
  load-alike loaded pointer (Add sum left right) facts = let ops = facts.opcode in absurd (omega arith)
  load-alike loaded pointer (Store value pointer2 is_aligned) facts = let ops = facts.opcode in absurd (omega arith)

  store-alike : (value pointer : Name) (other : KernelInst) → RowFacts f types (store_row value pointer) None (inst_partner ids other)
      → AlikeInsts f ids (Store value pointer true) other
  store-alike value pointer (Store value2 pointer2 is_aligned) facts = (facts.values.1.0, facts.values.0)
  store-alike value pointer (Add sum left right) facts = let ops = facts.opcode in absurd (omega arith)
  store-alike value pointer (Load loaded pointer2 is_aligned) facts = let ops = facts.opcode in absurd (omega arith)

  inst-alike : (inst other : KernelInst) → PairsInst f types (instruction inst) (inst_partner ids other) → AlikeInsts f ids inst other
  inst-alike (Add sum left right) other pair =
      add-alike sum left right other (row-facts f types (add_row left right) (instruction (Add sum left right)) (inst_partner ids other) refl pair)
  inst-alike (Load loaded pointer true) other pair =
      load-alike loaded pointer other (row-facts f types (load_row pointer) (instruction (Load loaded pointer true)) (inst_partner ids other) refl pair)
  inst-alike (Store value pointer true) other pair =
      store-alike value pointer other (row-facts f types (store_row value pointer) (instruction (Store value pointer true)) (inst_partner ids other) refl pair)
  inst-alike (Load loaded pointer false) other pair = absurd (false≢true (ap is_known pair.is))
  inst-alike (Store value pointer false) other pair = absurd (false≢true (ap is_known pair.is))

  end-alone : (other : KernelInst) → PairsInst f types text_end (inst_partner ids other) → ⊥
  end-alone other pair = by_inst other (row-facts f types return_row text_end (inst_partner ids other) refl pair)
    where
      by_inst : (i : KernelInst) → RowFacts f types return_row None (inst_partner ids i) → ⊥
      by_inst (Add sum left right) facts = let ops = facts.opcode in omega arith
      by_inst (Load loaded pointer is_aligned) facts = let ops = facts.opcode in omega arith
      by_inst (Store value pointer is_aligned) facts = let ops = facts.opcode in omega arith

  alone-end : (inst : KernelInst) → PairsInst f types (instruction inst) end_of_block → ⊥
  alone-end (Add sum left right) pair =
      let facts = row-facts f types (add_row left right) (instruction (Add sum left right)) end_of_block refl pair in
      let ops = facts.opcode in
      omega arith
  alone-end (Load loaded pointer true) pair =
      let facts = row-facts f types (load_row pointer) (instruction (Load loaded pointer true)) end_of_block refl pair in
      let ops = facts.opcode in
      omega arith
  alone-end (Store value pointer true) pair =
      let facts = row-facts f types (store_row value pointer) (instruction (Store value pointer true)) end_of_block refl pair in
      let ops = facts.opcode in
      omega arith
  alone-end (Load loaded pointer false) pair = false≢true (ap is_known pair.is)
  alone-end (Store value pointer false) pair = false≢true (ap is_known pair.is)

  insts-alike : (insts others : List KernelInst)
      → AllZip (PairsInst f types) (map instruction insts ++ text_end ∷ []) (map (inst_partner ids) others ++ end_of_block ∷ [])
      → AllZip (AlikeInsts f ids) insts others
  insts-alike [] [] pairs = tt
  insts-alike [] (other ∷ others) pairs = absurd (end-alone other pairs.0)
  insts-alike (inst ∷ insts) [] pairs = absurd (alone-end inst pairs.0)
  insts-alike (inst ∷ insts) (other ∷ others) pairs = (inst-alike inst other pairs.0, insts-alike insts others pairs.1)

  -- names
  abbrev Numbers : List Definition → List ℕ
  Numbers all = map f (map number_defined all)

  abbrev Added : List Definition → List ℕ
  Added all = map (λ n. ids.function + n) (map number_defined all)

  insts-numbers : (insts others : List KernelInst) → AllZip (AlikeInsts f ids) insts others
      → Numbers (flat_map defined_by insts) ≡ Added (flat_map defined_by others)
  insts-numbers [] [] alike = refl
  insts-numbers [] (other ∷ others) alike = absurd alike
  insts-numbers (inst ∷ insts) [] alike = absurd alike
  insts-numbers (Add sum left right ∷ insts) (Add sum2 left2 right2 ∷ others) alike =
      ap (λ n. n ∷ Numbers (flat_map defined_by insts)) alike.0.0 ∙ ap (λ ns. (ids.function + sum2.number) ∷ ns) (insts-numbers insts others alike.1)
  insts-numbers (Load loaded pointer is_aligned ∷ insts) (Load loaded2 pointer2 is_aligned2 ∷ others) alike =
      ap (λ n. n ∷ Numbers (flat_map defined_by insts)) alike.0.0 ∙ ap (λ ns. (ids.function + loaded2.number) ∷ ns) (insts-numbers insts others alike.1)
  insts-numbers (Store value pointer is_aligned ∷ insts) (Store value2 pointer2 is_aligned2 ∷ others) alike = insts-numbers insts others alike.1
  insts-numbers (Add sum left right ∷ insts) (Load loaded2 pointer2 is_aligned2 ∷ others) alike = absurd alike.0
  insts-numbers (Add sum left right ∷ insts) (Store value2 pointer2 is_aligned2 ∷ others) alike = absurd alike.0
  insts-numbers (Load loaded pointer is_aligned ∷ insts) (Add sum2 left2 right2 ∷ others) alike = absurd alike.0
  insts-numbers (Load loaded pointer is_aligned ∷ insts) (Store value2 pointer2 is_aligned2 ∷ others) alike = absurd alike.0
  insts-numbers (Store value pointer is_aligned ∷ insts) (Add sum2 left2 right2 ∷ others) alike = absurd alike.0
  insts-numbers (Store value pointer is_aligned ∷ insts) (Load loaded2 pointer2 is_aligned2 ∷ others) alike = absurd alike.0

  all-numbers : (params others : List KernelParam) (block other_block : Definition) (values other_values : List Definition)
      → AllZip (AlikeParams f ids) params others → f (number_defined block) ≡ ids.function + number_defined other_block
      → Numbers values ≡ Added other_values
      → Numbers ((map param_definition params ++ block ∷ []) ++ values) ≡ Added ((map param_definition others ++ other_block ∷ []) ++ other_values)
  all-numbers [] [] block other_block values other_values alike blocks behind =
      ap (λ n. n ∷ Numbers values) blocks ∙ ap (λ ns. (ids.function + number_defined other_block) ∷ ns) behind
  all-numbers [] (other ∷ others) block other_block values other_values alike blocks behind = absurd alike
  all-numbers (param ∷ params) [] block other_block values other_values alike blocks behind = absurd alike
  all-numbers (param ∷ params) (other ∷ others) block other_block values other_values alike blocks behind =
      ap (λ n. n ∷ Numbers ((map param_definition params ++ block ∷ []) ++ values)) alike.0.1
      ∙ ap (λ ns. (ids.function + other.name.number) ∷ ns) (all-numbers params others block other_block values other_values alike.1 blocks behind)

  -- the map adds the id of the function to each number that is defined
  map-adds : (count others : ℕ) → map f (range_with_len 1 count) ≡ map (λ n. ids.function + n) (range_with_len 1 others) → f 0 ≡ ids.function
      → (n : ℕ) → n < count + 1 → f n ≡ ids.function + n
  map-adds count others same first zero within = omega arith
  map-adds count others same first (suc n) within =
      let sizes = sym (length-map-range_with_len f 1 count) ∙ ap length same ∙ length-map-range_with_len (λ k. ids.function + k) 1 others in
      let size : count ≡ others = sizes in
      let left = get_or-map-range_with_len f 1 count n (suc n) 0 (omega arith) (omega arith) in
      let right = get_or-map-range_with_len (λ k. ids.function + k) 1 others n (suc n) 0 (omega arith) (omega arith) in
      sym left ∙ ap (λ ns. get_or ns n 0) same ∙ right

  abbrev Adds : ℕ → Type 0
  Adds n = f n ≡ ids.function + n

  number-same : (n m : ℕ) → Adds n → f n ≡ ids.function + m → n ≡ m
  number-same n m adds is = omega arith

  insts-same : (insts others : List KernelInst) → All (EachNumber Adds) insts → AllZip (AlikeInsts f ids) insts others → map bare_inst insts ≡ map bare_inst others
  insts-same [] [] adds alike = refl
  insts-same [] (other ∷ others) adds alike = absurd alike
  insts-same (inst ∷ insts) [] adds alike = absurd alike
  insts-same (inst ∷ insts) (other ∷ others) adds alike =
      ap (λ i. i ∷ map bare_inst insts) (here inst other (All-head (EachNumber Adds) inst insts adds) alike.0)
      ∙ ap (λ is. bare_inst other ∷ is) (insts-same insts others (All-tail (EachNumber Adds) inst insts adds) alike.1)
    where
      here : (i o : KernelInst) → EachNumber Adds i → AlikeInsts f ids i o → bare_inst i ≡ bare_inst o
      here (Add sum left right) (Add sum2 left2 right2) add same =
          let first = number-same sum.number sum2.number add.0 same.0 in
          let second = number-same left.number left2.number add.1 same.1 in
          let third = number-same right.number right2.number add.2 same.2 in
          λ k. Add (record { number = first k; byte = 0 }) (record { number = second k; byte = 0 }) (record { number = third k; byte = 0 })
      here (Load loaded pointer is_aligned) (Load loaded2 pointer2 is_aligned2) add same =
          let first = number-same loaded.number loaded2.number add.0 same.0 in
          let second = number-same pointer.number pointer2.number add.1 same.1 in
          λ k. Load (record { number = first k; byte = 0 }) (record { number = second k; byte = 0 }) true
      here (Store value pointer is_aligned) (Store value2 pointer2 is_aligned2) add same =
          let first = number-same value.number value2.number add.0 same.0 in
          let second = number-same pointer.number pointer2.number add.1 same.1 in
          λ k. Store (record { number = first k; byte = 0 }) (record { number = second k; byte = 0 }) true
      here (Add sum left right) (Load loaded2 pointer2 is_aligned2) add same = absurd same
      here (Add sum left right) (Store value2 pointer2 is_aligned2) add same = absurd same
      here (Load loaded pointer is_aligned) (Add sum2 left2 right2) add same = absurd same
      here (Load loaded pointer is_aligned) (Store value2 pointer2 is_aligned2) add same = absurd same
      here (Store value pointer is_aligned) (Add sum2 left2 right2) add same = absurd same
      here (Store value pointer is_aligned) (Load loaded2 pointer2 is_aligned2) add same = absurd same

  abbrev AddsParam : KernelParam → Type 0
  AddsParam param = Adds param.name.number

  params-same : (params others : List KernelParam) → All AddsParam params → AllZip (AlikeParams f ids) params others → map bare_param params ≡ map bare_param others
  params-same [] [] adds alike = refl
  params-same [] (other ∷ others) adds alike = absurd alike
  params-same (param ∷ params) [] adds alike = absurd alike
  params-same (param ∷ params) (other ∷ others) adds alike =
      let number = number-same param.name.number other.name.number (All-head AddsParam param params adds) alike.0.1 in
      let type = alike.0.0 in
      let here : bare_param param ≡ bare_param other = λ k. record { value_type = type k; name = record { number = number k; byte = 0 } } in
      ap (λ p. p ∷ map bare_param params) here
      ∙ ap (λ ps. bare_param other ∷ ps) (params-same params others (All-tail AddsParam param params adds) alike.1)

paired-same : (needed : TypesNeeded) (kernel other : Kernel) → IsNumbered kernel → IsNumbered other → other.name.number ≡ 0
    → Pairs (text_module other) (module_over (listed_by needed (row_of_params kernel.params)) (ids_by needed) kernel) → IsSameKernel kernel other
paired-same needed kernel other numbered other_numbered first pairs =
    let ids = ids_by needed in
    let f = pairs.ids in
    let types = types_in needed (row_of_params kernel.params) in
    let blocks = pairs.bodies.0.blocks.0 in
    let params = params-alike f needed (row_of_params kernel.params) other.params kernel.params pairs.functions.0.params in
    let insts = insts-alike f ids types other.insts kernel.insts blocks.insts in
    let block : Definition = record { name = other.block; value_type = None } in
    let kernel_block : Definition = record { name = kernel.block; value_type = None } in
    let numbers = all-numbers f ids types other.params kernel.params block kernel_block (flat_map defined_by other.insts) (flat_map defined_by kernel.insts) params blocks.name
    (insts-numbers f ids types other.insts kernel.insts insts) in
    let ranges = ap (map f) (sym other_numbered.defined) ∙ numbers ∙ ap (map (λ n. ids.function + n)) numbered.defined in
    let zero_is : f 0 ≡ ids.function = ap f (sym first) ∙ pairs.functions.0.name in
    let adds = map-adds f ids types (definition_count other) (definition_count kernel) ranges zero_is in
    let names = numbered-names (λ n. f n ≡ ids.function + n) other other_numbered adds in
    record {
      name = sym pairs.entries.0.name;
      params = sym (params-same f ids types other.params kernel.params names.params params);
      block = sym (number-same f ids types other.block.number kernel.block.number names.block blocks.name);
      insts = sym (insts-same f ids types other.insts kernel.insts names.insts insts);
    }

pub pairs-alone : (kernel other : Kernel) → IsNumbered kernel → IsNumbered other → other.name.number ≡ 0 → Pairs (text_module other) (partner kernel)
    → IsSameKernel kernel other
pairs-alone kernel other numbered other_numbered first pairs =
    let needed = needed_by kernel.params kernel.insts in
    paired-same needed kernel other numbered other_numbered first
    (subst (λ (spv : SpvModule). Pairs (text_module other) spv) (sym (partner-needed kernel needed (ids_by needed) refl refl)) pairs)
