-- The parts of a module that makes a pair with a kernel's module of text: what they define and need, and what they become.
use Rattle.std.proofs.Common.{◌≡◌, ℕ, zero, suc, ◌+◌, true, false, List, [], ◌∷◌, ◌++◌, map, refl, sym, ◌∙◌, ap, arith, All, None}
use Rattle.std.specs.Prelude.{flat_map}
use Rattle.std.specs.List.{AllZip}
use Rattle.std.proofs.lemmas.Bool.{false≢true}
use Rattle.std.proofs.lemmas.List.Elements.{All-head, All-tail}
use Rattle.ll_tree.specs.declared.name.Name.{Name}
use Rattle.ll_tree.specs.declared.value.Value.{Local as local}
use Rattle.kernel_tree.specs.declared.kernel.Kernel.{Kernel}
use Rattle.kernel_tree.specs.declared.kernel.KernelInst.{KernelInst}
use Rattle.kernel_tree.specs.declared.kernel.KernelInst.TheVariants.{Add, Load, Store}
use Rattle.kernel_tree.specs.declared.kernel.KernelParam.{KernelParam}
use Rattle.kernel_tree.specs.declared.kernel.ValueType.{ValueType}
use Rattle.kernel_tree.specs.declared.kernel.ValueType.TheVariants.{Int as i32}
use Rattle.kernel_tree.specs.Modules.{parameter, instruction, end_of_block as text_end, type_of}
use Rattle.kernel_tree.specs.Names.{defined_by}
use Rattle.kernel_tree.specs.Numbered.{number_defined}
use Rattle.spv_layout.specs.declared.opcode.Opcode.{Opcode}
use Rattle.spv_layout.specs.declared.opcode.Opcode.TheVariants as op
use Rattle.spv_layout.specs.Forms.{number_of}
use Rattle.spv_module.specs.declared.inst.SpvInst.{SpvInst}
use Rattle.spv_module.specs.declared.module.Param.{Param}
use Rattle.spv_module.specs.Insts.{inst_renamed, list_where, replaced}
use Rattle.spv_module.specs.Modules.{inst_moved, param_moved}
use Rattle.spv_module.specs.Roles.{has_result, has_result_type}
use Rattle.spv_module.specs.NamedTypes.{NamedTypes}
use Rattle.to_spirv.specs.KernelTypes.{result_trees}
use Rattle.to_spirv.specs.Pairing.{PairsInst, PairsParam, PairsType, PairsValue, Row}
use Rattle.to_spirv.specs.Partner.{end_of_block, id_of, ids_over, inst_partner, param_partner, value_type_id}
use Rattle.to_spirv.specs.Ranges.{EachNumber}
use Rattle.to_spirv.specs.TypeTrees.{TypeTree}
use Rattle.to_spirv.proofs.AloneLemmas.{RowFacts, row-facts, is_known, add_row, load_row, store_row, return_row}
use Rattle.spv_canon.specs.Canonical.{param_id, param_renamed, result_types, results}
use Rattle.spv_canon.specs.Trees.{tree_with_id}
use Rattle.spv_canon.proofs.TreeFacts.{HasSoundTypes, type-tree}

-- the places of a module that has none
abbrev pub nowhere : ℕ → ℕ
nowhere place = 0

module _ (f : ℕ → ℕ) (types : NamedTypes) where
  -- the row that the instruction of a kernel has
  abbrev pub row_for : KernelInst → Row
  row_for (Add sum left right) = add_row left right
  row_for (Load loaded pointer is_aligned) = load_row pointer
  row_for (Store value pointer is_aligned) = store_row value pointer

  abbrev pub FactsFor : KernelInst → SpvInst → Type 0
  FactsFor inst spv = RowFacts f types (row_for inst) (instruction inst).defines spv

  pub facts-for : (inst : KernelInst) (spv : SpvInst) → PairsInst f types (instruction inst) spv → FactsFor inst spv
  facts-for (Add sum left right) spv pair = row-facts f types (add_row left right) (instruction (Add sum left right)) spv refl pair
  facts-for (Load loaded pointer true) spv pair = row-facts f types (load_row pointer) (instruction (Load loaded pointer true)) spv refl pair
  facts-for (Load loaded pointer false) spv pair = absurd (false≢true (ap is_known pair.is))
  facts-for (Store value pointer true) spv pair = row-facts f types (store_row value pointer) (instruction (Store value pointer true)) spv refl pair
  facts-for (Store value pointer false) spv pair = absurd (false≢true (ap is_known pair.is))

  pub end-facts : (spv : SpvInst) → PairsInst f types text_end spv → RowFacts f types return_row None spv
  end-facts spv pair = row-facts f types return_row text_end spv refl pair

  -- what is told of each instruction is told of them all
  pub each-inst : {X : Type 0} (of : SpvInst → List X) (into : KernelInst → List X)
      → ((inst : KernelInst) (spv : SpvInst) → FactsFor inst spv → of spv ≡ into inst)
      → ((spv : SpvInst) → RowFacts f types return_row None spv → of spv ≡ [])
      → (insts : List KernelInst) (spvs : List SpvInst) → AllZip (PairsInst f types) (map instruction insts ++ text_end ∷ []) spvs
      → flat_map of spvs ≡ flat_map into insts
  each-inst of into here end [] [] pairs = absurd pairs
  each-inst of into here end [] (spv ∷ []) pairs = ap (λ xs. xs ++ []) (end spv (end-facts spv pairs.0))
  each-inst of into here end [] (spv ∷ other ∷ spvs) pairs = absurd pairs.1
  each-inst of into here end (inst ∷ insts) [] pairs = absurd pairs
  each-inst of into here end (inst ∷ insts) (spv ∷ spvs) pairs =
      ap (λ xs. xs ++ flat_map of spvs) (here inst spv (facts-for inst spv pairs.0))
      ∙ ap (λ xs. into inst ++ xs) (each-inst of into here end insts spvs pairs.1)

  -- the ids that results have
  abbrev pub ids_defined : KernelInst → List ℕ
  ids_defined inst = map f (map number_defined (defined_by inst))

  results-of : (inst : KernelInst) (spv : SpvInst) → FactsFor inst spv → results spv ≡ ids_defined inst
  results-of (Add sum left right) spv facts =
      ap (λ o. list_where (has_result o) spv.result) facts.opcode ∙ ap (λ id. id ∷ []) (sym facts.given.1)
  results-of (Load loaded pointer is_aligned) spv facts =
      ap (λ o. list_where (has_result o) spv.result) facts.opcode ∙ ap (λ id. id ∷ []) (sym facts.given.1)
  results-of (Store value pointer is_aligned) spv facts = ap (λ o. list_where (has_result o) spv.result) facts.opcode

  end-results : (spv : SpvInst) → RowFacts f types return_row None spv → results spv ≡ []
  end-results spv facts = ap (λ o. list_where (has_result o) spv.result) facts.opcode

  pub insts-results : (insts : List KernelInst) (spvs : List SpvInst) → AllZip (PairsInst f types) (map instruction insts ++ text_end ∷ []) spvs
      → flat_map results spvs ≡ flat_map ids_defined insts
  insts-results insts spvs pairs = each-inst results ids_defined results-of end-results insts spvs pairs

  pub params-ids : (params : List KernelParam) (spvs : List Param) → AllZip (PairsParam f types) (map parameter params) spvs
      → map param_id spvs ≡ map (λ param. f param.name.number) params
  params-ids [] [] pairs = refl
  params-ids [] (spv ∷ spvs) pairs = absurd pairs
  params-ids (param ∷ params) [] pairs = absurd pairs
  params-ids (param ∷ params) (spv ∷ spvs) pairs =
      ap (λ id. id ∷ map param_id spvs) (sym pairs.0.name) ∙ ap (λ ids. f param.name.number ∷ ids) (params-ids params spvs pairs.1)

  -- the names that are operands
  pub values-are : (names : List Name) (ids : List ℕ) → AllZip (PairsValue f types) (map (λ (name : Name). local name) names) ids
      → ids ≡ map (λ (name : Name). f name.number) names
  values-are [] [] pairs = refl
  values-are [] (id ∷ ids) pairs = absurd pairs
  values-are (name ∷ names) [] pairs = absurd pairs
  values-are (name ∷ names) (id ∷ ids) pairs =
      ap (λ i. i ∷ ids) (sym pairs.0) ∙ ap (λ is. f name.number ∷ is) (values-are names ids pairs.1)

  -- the trees that results need
  module _ (sound : HasSoundTypes types) where
    abbrev trees_asked : SpvInst → List TypeTree
    trees_asked spv = map (tree_with_id types) (result_types spv)

    asked-of : (inst : KernelInst) (spv : SpvInst) → FactsFor inst spv → trees_asked spv ≡ result_trees inst
    asked-of (Add sum left right) spv facts =
        ap (λ o. map (tree_with_id types) (list_where (has_result_type o) spv.ty)) facts.opcode
        ∙ ap (λ t. t ∷ []) (type-tree types sound i32 spv.ty facts.given.0)
    asked-of (Load loaded pointer is_aligned) spv facts =
        ap (λ o. map (tree_with_id types) (list_where (has_result_type o) spv.ty)) facts.opcode
        ∙ ap (λ t. t ∷ []) (type-tree types sound i32 spv.ty facts.given.0)
    asked-of (Store value pointer is_aligned) spv facts = ap (λ o. map (tree_with_id types) (list_where (has_result_type o) spv.ty)) facts.opcode

    end-asked : (spv : SpvInst) → RowFacts f types return_row None spv → trees_asked spv ≡ []
    end-asked spv facts = ap (λ o. map (tree_with_id types) (list_where (has_result_type o) spv.ty)) facts.opcode

    pub insts-trees : (insts : List KernelInst) (spvs : List SpvInst) → AllZip (PairsInst f types) (map instruction insts ++ text_end ∷ []) spvs
        → flat_map trees_asked spvs ≡ flat_map result_trees insts
    insts-trees insts spvs pairs = each-inst trees_asked result_trees asked-of end-asked insts spvs pairs

-- what is renamed, given the new ids of types and of names
module _ (f g : ℕ → ℕ) (types : NamedTypes) (listed : List TypeTree) (kernel : Kernel) (P : ℕ → Type 0) (named : (n : ℕ) → P n → g (f n) ≡ (ids_over listed kernel).function + n)
    (typed : (t : ValueType) (id : ℕ) → PairsType types (type_of t) id → g id ≡ value_type_id (ids_over listed kernel) t) where
  abbrev becomes : SpvInst → SpvInst
  becomes spv = inst_moved nowhere (inst_renamed g spv)

  operands-become : (names : List Name) (spv : SpvInst) → All (λ name. P name.number) names → AllZip (PairsValue f types) (map (λ (name : Name). local name) names) spv.operands.ids
      → map g spv.operands.ids ≡ map (id_of (ids_over listed kernel)) names
  operands-become names spv have pairs = ap (map g) (values-are f types names spv.operands.ids pairs) ∙ each names have
    where
      each : (ns : List Name) → All (λ name. P name.number) ns → map g (map (λ (name : Name). f name.number) ns) ≡ map (id_of (ids_over listed kernel)) ns
      each [] all = refl
      each (n ∷ ns) all =
          ap (λ id. id ∷ map g (map (λ (name : Name). f name.number) ns)) (named n.number (All-head (λ name. P name.number) n ns all))
          ∙ ap (λ rest. ((ids_over listed kernel).function + n.number) ∷ rest) (each ns (All-tail (λ name. P name.number) n ns all))

  -- an instruction by its parts
  inst-is : (opcode : Opcode) (ty result : ℕ) (operands words : List ℕ) (spv : SpvInst) → spv.op ≡ number_of opcode
      → replaced (has_result_type (number_of opcode)) g spv.ty ≡ ty → replaced (has_result (number_of opcode)) g spv.result ≡ result
      → map g spv.operands.ids ≡ operands → spv.operands.words ≡ words
      → becomes spv ≡ record { op = number_of opcode; ty = ty; result = result; operands = record { ids = operands; words = words }; place = 0 }
  inst-is opcode ty result operands words spv is ty_is result_is operands_are words_are =
      let type : replaced (has_result_type spv.op) g spv.ty ≡ ty = ap (λ o. replaced (has_result_type o) g spv.ty) is ∙ ty_is in
      let id : replaced (has_result spv.op) g spv.result ≡ result = ap (λ o. replaced (has_result o) g spv.result) is ∙ result_is in
      λ i. record { op = is i; ty = type i; result = id i; operands = record { ids = operands_are i; words = words_are i }; place = 0 }

  two : (first second : Name) → P first.number → P second.number → All (λ (name : Name). P name.number) (first ∷ second ∷ [])
  two first second p q zero d lt = p
  two first second p q (suc zero) d lt = q
  two first second p q (suc (suc k)) d lt = absurd (omega arith)

  one : (first : Name) → P first.number → All (λ (name : Name). P name.number) (first ∷ [])
  one first p zero d lt = p
  one first p (suc k) d lt = absurd (omega arith)

  inst-becomes : (inst : KernelInst) (spv : SpvInst) → EachNumber P inst → FactsFor f types inst spv → becomes spv ≡ inst_partner (ids_over listed kernel) inst
  inst-becomes (Add sum left right) spv have facts =
      inst-is op.IAdd (ids_over listed kernel).int (id_of (ids_over listed kernel) sum) (id_of (ids_over listed kernel) left ∷ id_of (ids_over listed kernel) right ∷ []) [] spv facts.opcode
      (typed i32 spv.ty facts.given.0) (ap g (sym facts.given.1) ∙ named sum.number have.0)
      (operands-become (left ∷ right ∷ []) spv (two left right have.1 have.2) facts.values) facts.words
  inst-becomes (Load loaded pointer is_aligned) spv have facts =
      inst-is op.Load (ids_over listed kernel).int (id_of (ids_over listed kernel) loaded) (id_of (ids_over listed kernel) pointer ∷ []) (2 ∷ 4 ∷ []) spv facts.opcode
      (typed i32 spv.ty facts.given.0) (ap g (sym facts.given.1) ∙ named loaded.number have.0)
      (operands-become (pointer ∷ []) spv (one pointer have.1) facts.values) facts.words
  inst-becomes (Store value pointer is_aligned) spv have facts =
      inst-is op.Store 0 0 (id_of (ids_over listed kernel) pointer ∷ id_of (ids_over listed kernel) value ∷ []) (2 ∷ 4 ∷ []) spv facts.opcode
      facts.given.0 facts.given.1
      (operands-become (pointer ∷ value ∷ []) spv (two pointer value have.1 have.0) facts.values) facts.words

  end-becomes : (spv : SpvInst) → RowFacts f types return_row None spv → becomes spv ≡ end_of_block
  end-becomes spv facts =
      inst-is op.Return 0 0 [] [] spv facts.opcode facts.given.0 facts.given.1 (ap (map g) (values-are f types [] spv.operands.ids facts.values)) facts.words

  pub insts-become : (insts : List KernelInst) (spvs : List SpvInst) → All (EachNumber P) insts
      → AllZip (PairsInst f types) (map instruction insts ++ text_end ∷ []) spvs
      → map (inst_moved nowhere) (map (inst_renamed g) spvs) ≡ map (inst_partner (ids_over listed kernel)) insts ++ end_of_block ∷ []
  insts-become [] [] have pairs = absurd pairs
  insts-become [] (spv ∷ []) have pairs = ap (λ i. i ∷ []) (end-becomes spv (end-facts f types spv pairs.0))
  insts-become [] (spv ∷ other ∷ spvs) have pairs = absurd pairs.1
  insts-become (inst ∷ insts) [] have pairs = absurd pairs
  insts-become (inst ∷ insts) (spv ∷ spvs) have pairs =
      ap (λ i. i ∷ map (inst_moved nowhere) (map (inst_renamed g) spvs))
      (inst-becomes inst spv (All-head (EachNumber P) inst insts have) (facts-for f types inst spv pairs.0))
      ∙ ap (λ is. inst_partner (ids_over listed kernel) inst ∷ is) (insts-become insts spvs (All-tail (EachNumber P) inst insts have) pairs.1)

  abbrev HasNumber : KernelParam → Type 0
  HasNumber param = P param.name.number

  pub params-become : (params : List KernelParam) (spvs : List Param) → All HasNumber params → AllZip (PairsParam f types) (map parameter params) spvs
      → map (param_moved nowhere) (map (param_renamed g) spvs) ≡ map (param_partner (ids_over listed kernel)) params
  params-become [] [] have pairs = refl
  params-become [] (spv ∷ spvs) have pairs = absurd pairs
  params-become (param ∷ params) [] have pairs = absurd pairs
  params-become (param ∷ params) (spv ∷ spvs) have pairs =
      let id : g spv.id ≡ id_of (ids_over listed kernel) param.name = ap g (sym pairs.0.name) ∙ named param.name.number (All-head HasNumber param params have) in
      let type : g spv.ty ≡ value_type_id (ids_over listed kernel) param.value_type = typed param.value_type spv.ty pairs.0.type in
      let here : param_moved nowhere (param_renamed g spv) ≡ param_partner (ids_over listed kernel) param = λ i. record { id = id i; ty = type i; place = 0 } in
      ap (λ p. p ∷ map (param_moved nowhere) (map (param_renamed g) spvs)) here
      ∙ ap (λ ps. param_partner (ids_over listed kernel) param ∷ ps) (params-become params spvs (All-tail HasNumber param params have) pairs.1)

  pub numbers-become : (params : List KernelParam) → All HasNumber params
      → map g (map f (map (λ param. param.name.number) params)) ≡ map (λ param. id_of (ids_over listed kernel) param.name) params
  numbers-become [] have = refl
  numbers-become (param ∷ params) have =
      ap (λ id. id ∷ map g (map f (map (λ p. p.name.number) params))) (named param.name.number (All-head HasNumber param params have))
      ∙ ap (λ ids_behind. id_of (ids_over listed kernel) param.name ∷ ids_behind) (numbers-become params (All-tail HasNumber param params have))
