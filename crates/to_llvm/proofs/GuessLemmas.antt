-- What the instructions of a kernel's module are taken for.
use Rattle.std.proofs.Common.{◌≡◌, ◌≢◌, ℕ, zero, suc, ◌+◌, ◌-◌, ◌%◌, ◌<◌, Bool, true, false, List, [], ◌∷◌, ◌++◌, map, drop, length, replicate, All, Option, Some, refl, sym, ◌∙◌, ap, ap₂, arith, append-nil}
use Rattle.std.specs.Prelude.{◌==◌, if◌then◌else◌}
use Rattle.std.specs.List.{list_any}
use Rattle.std.specs.Option.{option_to_list}
use Rattle.std.proofs.lemmas.Bool.{false≢true}
use Rattle.std.proofs.lemmas.Bool.Decides.{nat_tests}
use Rattle.std.proofs.lemmas.List.Elements.{All-head, All-tail}
use Rattle.spv_words.specs.declared.words.Order.TheVariants.{Little}
use Rattle.spv_words.specs.Words.{words_bytes}
use Rattle.spv_layout.specs.declared.opcode.Opcode.{Opcode}
use Rattle.spv_layout.specs.declared.opcode.Opcode.TheVariants as op
use Rattle.spv_codec.specs.declared.module.RawInst.{RawInst}
use Rattle.spv_module.specs.declared.inst.SpvInst.{SpvInst}
use Rattle.spv_module.specs.declared.module.Param.{Param}
use Rattle.spv_module.specs.Spelled.{spelled, param_spelled}
use Rattle.spv_module.specs.Sections.{placed, sections, flattened}
use Rattle.spv_module.specs.Texts.{text_words}
use Rattle.spv_module.specs.Woven.{inst_spelled}
use Rattle.ll_tree.specs.declared.name.Name.{Name}
use Rattle.kernel_tree.specs.declared.kernel.Kernel.{Kernel}
use Rattle.kernel_tree.specs.declared.kernel.KernelInst.{KernelInst}
use Rattle.kernel_tree.specs.declared.kernel.KernelInst.TheVariants.{Add, Load, Store}
use Rattle.kernel_tree.specs.declared.kernel.KernelParam.{KernelParam}
use Rattle.kernel_tree.specs.declared.kernel.ValueType.{ValueType}
use Rattle.kernel_tree.specs.declared.kernel.ValueType.TheVariants.{Int as i32, Pointer as i32_pointer}
use Rattle.kernel_tree.specs.Numbered.{name_bytes}
use Rattle.to_spirv.specs.ClosedTypes.{ids_by, needed_where, has_value, takes_pointer}
use Rattle.to_spirv.specs.KernelTypes.{row_of_params}
use Rattle.to_spirv.specs.Limits.{HasPlainName}
use Rattle.to_spirv.specs.Partner.{value_type_id, param_partner, inst_partner, end_of_block, partner}
use Rattle.to_spirv.specs.SameKernels.{bare, bare_param, bare_inst}
use Rattle.to_spirv.proofs.LimitLemmas.{partner-parts}
use Rattle.to_spirv.proofs.PairLemmas.{is_listed, HasParamType, params-listed}
use Rattle.to_spirv.proofs.SectionLemmas.{param_type_ids, type_insts, block_insts, tail_of, all_insts}
use Rattle.to_spirv.proofs.TextLemmas.{text-are_words}
use Rattle.to_spirv.proofs.Utf8Lemmas.{utf8-bytes}
use Rattle.to_llvm.specs.declared.ids.KnownIds.{KnownIds}
use Rattle.to_llvm.specs.Guesses.{is_op, first_operands, operand, known_ids, name_of, value_type_of, param_of, param_in, params_in, inst_in, insts_in, block_in, before_zero, entry_text, kernel_with, guessed_by, guessed}

-- places don't matter
first-placed : (opcode : Opcode) (place : ℕ) (insts : List RawInst) → first_operands opcode (placed place insts) ≡ first_operands opcode insts
first-placed opcode place [] = refl
first-placed opcode place (inst ∷ insts) =
    ap (λ (rest : List ℕ). if is_op opcode inst then inst.operands else rest) (first-placed opcode (place + (length inst.operands + 1)) insts)

params-placed : (ids : KnownIds) (place : ℕ) (insts : List RawInst) → params_in ids (placed place insts) ≡ params_in ids insts
params-placed ids place [] = refl
params-placed ids place (inst ∷ insts) =
    ap (λ (rest : List KernelParam). option_to_list (param_in ids inst) ++ rest) (params-placed ids (place + (length inst.operands + 1)) insts)

insts-placed : (ids : KnownIds) (place : ℕ) (insts : List RawInst) → insts_in ids (placed place insts) ≡ insts_in ids insts
insts-placed ids place [] = refl
insts-placed ids place (inst ∷ insts) =
    ap (λ (rest : List KernelInst). option_to_list (inst_in ids inst) ++ rest) (insts-placed ids (place + (length inst.operands + 1)) insts)

-- a kernel from what was found
guess-made : (insts : List RawInst) (ids : KnownIds) (entry label : List ℕ) (text : List ℕ) (params : List KernelParam) (made : List KernelInst)
    → known_ids insts ≡ ids → first_operands op.EntryPoint insts ≡ entry → before_zero (words_bytes Little (drop 2 entry)) ≡ text
    → params_in ids insts ≡ params → first_operands op.Label insts ≡ label → insts_in ids insts ≡ made
    → guessed insts ≡ kernel_with text params (name_of ids (operand label 0)) made
unfolding guessed
guess-made insts ids entry label text params made known found read params_are label_is made_are =
    ap (λ (x : KnownIds). guessed_by x insts) known
    ∙ (ap (λ (x : List ℕ). kernel_with x (params_in ids insts) (block_in ids insts) (insts_in ids insts)) (ap (λ (x : List ℕ). before_zero (words_bytes Little (drop 2 x))) found ∙ read)
    ∙ (ap (λ (x : List KernelParam). kernel_with text x (block_in ids insts) (insts_in ids insts)) params_are
    ∙ (ap (λ (x : List ℕ). kernel_with text params (name_of ids (operand x 0)) (insts_in ids insts)) label_is
    ∙ ap (kernel_with text params (name_of ids (operand label 0))) made_are)))

known-made : (insts : List RawInst) (function pointer : List ℕ) → first_operands op.Function insts ≡ function → first_operands op.TypePointer insts ≡ pointer
    → known_ids insts ≡ record { function = operand function 1; pointer = operand pointer 0 }
known-made insts function pointer function_is pointer_is =
    ap₂ (λ (f : List ℕ) (p : List ℕ). record { function = operand f 1; pointer = operand p 0 }) function_is pointer_is

guess-placed : (place : ℕ) (insts : List RawInst) → guessed (placed place insts) ≡ guessed insts
unfolding guessed
guess-placed place insts =
    guess-made (placed place insts) (known_ids insts) (first_operands op.EntryPoint insts) (first_operands op.Label insts) (entry_text insts)
    (params_in (known_ids insts) insts) (insts_in (known_ids insts) insts)
    (known-made (placed place insts) (first_operands op.Function insts) (first_operands op.TypePointer insts) (first-placed op.Function place insts) (first-placed op.TypePointer place insts))
    (first-placed op.EntryPoint place insts) refl (params-placed (known_ids insts) place insts) (first-placed op.Label place insts) (insts-placed (known_ids insts) place insts)

-- what isn't among parameters
skipped : (opcode : Opcode) (params : List Param) (rest : List RawInst) → is_op opcode (spelled op.FunctionParameter []) ≡ false
    → first_operands opcode (map param_spelled params ++ rest) ≡ first_operands opcode rest
skipped opcode [] rest other = refl
skipped opcode (param ∷ params) rest other =
    ap (λ (b : Bool). if b then (param_spelled param).operands else first_operands opcode (map param_spelled params ++ rest)) other
    ∙ skipped opcode params rest other

insts-skipped : (known : KnownIds) (params : List Param) (rest : List RawInst) → insts_in known (map param_spelled params ++ rest) ≡ insts_in known rest
insts-skipped known [] rest = refl
insts-skipped known (param ∷ params) rest = insts-skipped known params rest

number-back : (function number : ℕ) → function + number - function ≡ number
number-back function number = omega arith

-- the operands of the type of pointers, if there is one
abbrev pointer_words : Bool → List ℕ
pointer_words true = 3 ∷ 5 ∷ 2 ∷ []
pointer_words false = []

-- where a parameter is a pointer, where there are these parameters, and where an instruction has a value
module _ (pointer : Bool) (params : List KernelParam) (value : Bool) where
  abbrev function_id : ℕ
  function_id = (ids_by (needed_where pointer params value)).function

  abbrev known : KnownIds
  known = record { function = function_id; pointer = operand (pointer_words pointer) 0 }

  abbrev function_words : List ℕ
  function_words =
      (ids_by (needed_where pointer params value)).void ∷ function_id ∷ 0 ∷ (ids_by (needed_where pointer params value)).function_type ∷ []

  abbrev param_made : KernelParam → Param
  param_made param = param_partner (ids_by (needed_where pointer params value)) param

  abbrev inst_made : KernelInst → SpvInst
  inst_made inst = inst_partner (ids_by (needed_where pointer params value)) inst

  -- the instructions of the block, and the one behind them
  abbrev ended : List KernelInst → List RawInst
  ended insts = map inst_spelled (map inst_made insts ++ end_of_block ∷ []) ++ (spelled op.FunctionEnd [] ∷ [])

  abbrev tail_insts : Kernel → List RawInst
  tail_insts kernel = tail_of (ids_by (needed_where pointer params value)) kernel (block_insts (ids_by (needed_where pointer params value)) kernel)

  abbrev insts_of : List ℕ → Kernel → List RawInst
  insts_of types kernel = all_insts (ids_by (needed_where pointer params value)) (type_insts (needed_where pointer params value) types) kernel

  abbrev label_of : Kernel → ℕ
  label_of kernel = function_id + kernel.block.number

  -- what isn't among the instructions of the block
  no-pointer : (insts : List KernelInst) → first_operands op.TypePointer (ended insts) ≡ []
  no-pointer [] = refl
  no-pointer (Add sum left right ∷ insts) = no-pointer insts
  no-pointer (Load loaded from is_aligned ∷ insts) = no-pointer insts
  no-pointer (Store stored to is_aligned ∷ insts) = no-pointer insts

  no-params : (insts : List KernelInst) → params_in known (ended insts) ≡ []
  no-params [] = refl
  no-params (Add sum left right ∷ insts) = no-params insts
  no-params (Load loaded from is_aligned ∷ insts) = no-params insts
  no-params (Store stored to is_aligned ∷ insts) = no-params insts

  -- behind the function's first instruction
  tail-pointer : (kernel : Kernel) → first_operands op.TypePointer (tail_insts kernel) ≡ []
  tail-pointer kernel =
      skipped op.TypePointer (map param_made kernel.params) (spelled op.Label (label_of kernel ∷ []) ∷ ended kernel.insts) refl ∙ no-pointer kernel.insts

  tail-label : (kernel : Kernel) → first_operands op.Label (tail_insts kernel) ≡ label_of kernel ∷ []
  tail-label kernel = skipped op.Label (map param_made kernel.params) (spelled op.Label (label_of kernel ∷ []) ∷ ended kernel.insts) refl

  name-back : (name : Name) → name_of known (function_id + name.number) ≡ bare name
  name-back name = ap (λ (n : ℕ). record { number = n; byte = 0 }) (number-back function_id name.number)

  inst-back : (inst : KernelInst) → inst_in known (inst_spelled (inst_made inst)) ≡ Some (bare_inst inst)
  inst-back (Add sum left right) =
      ap₂ (λ (s : Name) (l : Name). Some (Add s l (name_of known (function_id + right.number)))) (name-back sum) (name-back left)
      ∙ ap (λ (r : Name). Some (Add (bare sum) (bare left) r)) (name-back right)
  inst-back (Load loaded from is_aligned) = ap₂ (λ (l : Name) (p : Name). Some (Load l p true)) (name-back loaded) (name-back from)
  inst-back (Store stored to is_aligned) = ap₂ (λ (v : Name) (p : Name). Some (Store v p true)) (name-back stored) (name-back to)

  block-back : (insts : List KernelInst) → insts_in known (ended insts) ≡ map bare_inst insts
  block-back [] = refl
  block-back (inst ∷ insts) =
      ap₂ (λ (o : Option KernelInst) (is : List KernelInst). option_to_list o ++ is) (inst-back inst) (block-back insts)

  tail-insts : (kernel : Kernel) → insts_in known (tail_insts kernel) ≡ map bare_inst kernel.insts
  tail-insts kernel =
      insts-skipped known (map param_made kernel.params) (spelled op.Label (label_of kernel ∷ []) ∷ ended kernel.insts) ∙ block-back kernel.insts

-- the types of values
type-back : (pointer : Bool) (params : List KernelParam) (value : Bool) (t : ValueType) → is_listed (needed_where pointer params value) t ≡ true
    → value_type_of (known pointer params value) (value_type_id (ids_by (needed_where pointer params value)) t) ≡ t
type-back true params value i32 listed = refl
type-back true params value i32_pointer listed = refl
type-back false (param ∷ params) value i32 listed = refl
type-back false (param ∷ params) value i32_pointer listed = absurd (false≢true listed)
type-back false [] true i32 listed = refl
type-back false [] true i32_pointer listed = absurd (false≢true listed)
type-back false [] false t listed = absurd (false≢true listed)

module _ (pointer : Bool) (params : List KernelParam) (value : Bool) where
  param-back : (param : KernelParam) → HasParamType (needed_where pointer params value) param
      → param_of (known pointer params value) (param_spelled (param_made pointer params value param)).operands ≡ bare_param param
  param-back param listed =
      ap₂ (λ (t : ValueType) (n : Name). record { value_type = t; name = n }) (type-back pointer params value param.value_type listed)
      (name-back pointer params value param.name)

  params-back : (all : List KernelParam) (rest : List RawInst) → All (HasParamType (needed_where pointer params value)) all
      → params_in (known pointer params value) rest ≡ []
      → params_in (known pointer params value) (map param_spelled (map (param_made pointer params value) all) ++ rest) ≡ map bare_param all
  params-back [] rest listed none = none
  params-back (param ∷ all) rest listed none =
      ap₂ (λ (p : KernelParam) (ps : List KernelParam). p ∷ ps) (param-back param (All-head (HasParamType (needed_where pointer params value)) param all listed))
      (params-back all rest (All-tail (HasParamType (needed_where pointer params value)) param all listed) none)

  tail-params : (kernel : Kernel) → All (HasParamType (needed_where pointer params value)) kernel.params
      → params_in (known pointer params value) (tail_insts pointer params value kernel) ≡ map bare_param kernel.params
  tail-params kernel listed =
      params-back kernel.params (spelled op.Label (label_of pointer params value kernel ∷ []) ∷ ended pointer params value kernel.insts) listed
      (no-params pointer params value kernel.insts)

-- in all instructions, which differ in those of the types
function-found : (pointer : Bool) (params : List KernelParam) (value : Bool) (types : List ℕ) (kernel : Kernel)
    → first_operands op.Function (insts_of pointer params value types kernel) ≡ function_words pointer params value
function-found true params value types kernel = refl
function-found false (param ∷ params) value types kernel = refl
function-found false [] true types kernel = refl
function-found false [] false types kernel = refl

pointer-found : (pointer : Bool) (params : List KernelParam) (value : Bool) (types : List ℕ) (kernel : Kernel)
    → first_operands op.TypePointer (insts_of pointer params value types kernel) ≡ pointer_words pointer
pointer-found true params value types kernel = refl
pointer-found false (param ∷ params) value types kernel = tail-pointer false (param ∷ params) value kernel
pointer-found false [] true types kernel = tail-pointer false [] true kernel
pointer-found false [] false types kernel = tail-pointer false [] false kernel

label-found : (pointer : Bool) (params : List KernelParam) (value : Bool) (types : List ℕ) (kernel : Kernel)
    → first_operands op.Label (insts_of pointer params value types kernel) ≡ label_of pointer params value kernel ∷ []
label-found true params value types kernel = tail-label true params value kernel
label-found false (param ∷ params) value types kernel = tail-label false (param ∷ params) value kernel
label-found false [] true types kernel = tail-label false [] true kernel
label-found false [] false types kernel = tail-label false [] false kernel

params-found : (pointer : Bool) (params : List KernelParam) (value : Bool) (types : List ℕ) (kernel : Kernel)
    → All (HasParamType (needed_where pointer params value)) kernel.params
    → params_in (known pointer params value) (insts_of pointer params value types kernel) ≡ map bare_param kernel.params
params-found true params value types kernel listed = tail-params true params value kernel listed
params-found false (param ∷ params) value types kernel listed = tail-params false (param ∷ params) value kernel listed
params-found false [] true types kernel listed = tail-params false [] true kernel listed
params-found false [] false types kernel listed = tail-params false [] false kernel listed

insts-found : (pointer : Bool) (params : List KernelParam) (value : Bool) (types : List ℕ) (kernel : Kernel)
    → insts_in (known pointer params value) (insts_of pointer params value types kernel) ≡ map bare_inst kernel.insts
insts-found true params value types kernel = tail-insts true params value kernel
insts-found false (param ∷ params) value types kernel = tail-insts false (param ∷ params) value kernel
insts-found false [] true types kernel = tail-insts false [] true kernel
insts-found false [] false types kernel = tail-insts false [] false kernel

-- the name of the entry point
no-zeros : (n : ℕ) → 0 < n → before_zero (replicate n 0) ≡ []
no-zeros zero some = absurd (omega (arith, some))
no-zeros (suc n) some = refl

is-zero : (byte : ℕ) → byte ≢ 0 → (byte == 0) ≡ false
is-zero byte other = grind (arith, nat_tests, other)

text-back : (text : List ℕ) (n : ℕ) → 0 < n → All (λ byte. byte ≢ 0) text → before_zero (text ++ replicate n 0) ≡ text
text-back [] n some no_zero = no-zeros n some
text-back (byte ∷ text) n some no_zero =
    ap (λ (b : Bool). if b then [] else byte ∷ before_zero (text ++ replicate n 0)) (is-zero byte (All-head (λ b. b ≢ 0) byte text no_zero))
    ∙ ap (λ (bytes : List ℕ). byte ∷ bytes) (text-back text n some (All-tail (λ b. b ≢ 0) byte text no_zero))

padded : (n : ℕ) → 0 < 4 - n % 4
padded n = omega arith

name-read : (kernel : Kernel) → HasPlainName kernel → before_zero (words_bytes Little (text_words (name_bytes kernel) ++ [])) ≡ name_bytes kernel
name-read kernel plain =
    let text = name_bytes kernel in
    ap (λ (words : List ℕ). before_zero (words_bytes Little words)) (append-nil (text_words text))
    ∙ (ap before_zero (sym (text-are_words text (utf8-bytes text plain.utf8)).spelled)
    ∙ text-back text (4 - length text % 4) (padded (length text)) plain.no_zero)

-- all together: the kernel but for the bytes of its names, with the target lines, alignments and the table of a canonical form
pub guess-bare : (kernel : Kernel) → HasPlainName kernel
    → guessed (flattened (partner kernel)).insts ≡ kernel_with (name_bytes kernel) (map bare_param kernel.params) (bare kernel.block) (map bare_inst kernel.insts)
guess-bare kernel plain =
    let pointer = list_any takes_pointer kernel.params in
    let value = list_any has_value kernel.insts in
    let row = row_of_params kernel.params in
    let types = param_type_ids (needed_where pointer kernel.params value) row row in
    let insts = insts_of pointer kernel.params value types kernel in
    let entry = 6 ∷ function_id pointer kernel.params value ∷ (text_words (name_bytes kernel) ++ []) in
    let label = label_of pointer kernel.params value kernel ∷ [] in
    let ids_found = known-made insts (function_words pointer kernel.params value) (pointer_words pointer)
    (function-found pointer kernel.params value types kernel) (pointer-found pointer kernel.params value types kernel) in
    guess-placed 5 (sections (partner kernel))
    ∙ (ap guessed (partner-parts kernel (needed_where pointer kernel.params value) refl)
    ∙ (guess-made insts (known pointer kernel.params value) entry label (name_bytes kernel) (map bare_param kernel.params) (map bare_inst kernel.insts)
    ids_found refl (name-read kernel plain) (params-found pointer kernel.params value types kernel (params-listed kernel.params kernel.insts))
    (label-found pointer kernel.params value types kernel) (insts-found pointer kernel.params value types kernel)
    ∙ ap (λ (n : Name). kernel_with (name_bytes kernel) (map bare_param kernel.params) n (map bare_inst kernel.insts))
    (name-back pointer kernel.params value kernel.block)))
