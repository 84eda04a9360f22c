-- Kernels whose modules have the same words are the same.
use Rattle.std.proofs.Common.{◌≡◌, ◌≢◌, ℕ, ◌+◌, true, List, [], ◌∷◌, ◌++◌, map, length, get_or, drop, All, refl, sym, ◌∙◌, ap, subst, arith, append-nil}
use Rattle.std.specs.Prelude.{IsUtf8}
use Rattle.std.proofs.lemmas.Bool.{false≢true}
use Rattle.std.proofs.lemmas.List.{map-append}
use Rattle.std.proofs.lemmas.List.Elements.{All-head, All-tail}
use Rattle.spv_words.specs.declared.words.Order.TheVariants.{Little}
use Rattle.spv_words.specs.Strings.{BeginsString}
use Rattle.spv_words.specs.Words.{words_bytes}
use Rattle.spv_words.proofs.StringLaws.{string-reads_back, one-string}
use Rattle.spv_codec.specs.declared.module.RawInst.{RawInst}
use Rattle.spv_codec.specs.Framing.{IsSpirv, module_words}
use Rattle.spv_codec.proofs.FramingLaws.{one-module}
use Rattle.spv_layout.specs.declared.opcode.Opcode.TheVariants as op
use Rattle.spv_module.specs.Spelled.{spelled, param_spelled}
use Rattle.spv_module.specs.Sections.{sections, placed, flattened}
use Rattle.spv_module.specs.Texts.{text_words}
use Rattle.spv_module.specs.Woven.{inst_spelled}
use Rattle.kernel_tree.specs.declared.kernel.Kernel.{Kernel}
use Rattle.kernel_tree.specs.declared.kernel.KernelInst.{KernelInst}
use Rattle.kernel_tree.specs.declared.kernel.KernelInst.TheVariants.{Add, Load, Store}
use Rattle.kernel_tree.specs.declared.kernel.KernelParam.{KernelParam}
use Rattle.kernel_tree.specs.declared.kernel.ValueType.{ValueType}
use Rattle.kernel_tree.specs.declared.kernel.ValueType.TheVariants.{Int as i32, Pointer as i32_pointer}
use Rattle.kernel_tree.specs.Numbered.{IsNumbered, name_bytes}
use Rattle.to_spirv.specs.declared.ids.Ids.{Ids}
use Rattle.to_spirv.specs.declared.types.TypesNeeded.{TypesNeeded}
use Rattle.to_spirv.specs.declared.types.TypesNeeded.TheVariants.{Neither, ResultInt, ParamInt, ParamPointer}
use Rattle.to_spirv.specs.KernelTypes.{row_of_params}
use Rattle.to_spirv.specs.ClosedTypes.{ids_by, needed_by}
use Rattle.to_spirv.specs.Limits.{HasPlainName, IsWithinLimits}
use Rattle.to_spirv.specs.Partner.{value_type_id, id_of, param_partner, inst_partner, end_of_block, partner}
use Rattle.to_spirv.specs.SameKernels.{bare_param, bare_inst, IsSameKernel}
use Rattle.to_spirv.proofs.FitLemmas.{framing-kept}
use Rattle.to_spirv.proofs.LimitLemmas.{partner-parts}
use Rattle.to_spirv.proofs.PairLemmas.{is_listed, HasParamType, params-listed}
use Rattle.to_spirv.proofs.SectionLemmas.{param_type_ids, type_insts, front_insts, function_inst, param_insts, label_inst, block_insts, tail_of, all_insts}
use Rattle.to_spirv.proofs.TextLemmas.{text-are_words}
use Rattle.to_spirv.proofs.Utf8Lemmas.{utf8-bytes}

-- an instruction without its place
abbrev placeless : RawInst → RawInst
placeless inst = record { op = inst.op; place = 0; operands = inst.operands }

placed-placeless : (place : ℕ) (insts : List RawInst) → map placeless (placed place insts) ≡ map placeless insts
placed-placeless place [] = refl
placed-placeless place (inst ∷ insts) = ap (λ rest. placeless inst ∷ rest) (placed-placeless (place + (length inst.operands + 1)) insts)

-- the instructions of a kernel's module have their places still to be said
params-placeless : (ids : Ids) (params : List KernelParam)
    → map placeless (map param_spelled (map (param_partner ids) params)) ≡ map param_spelled (map (param_partner ids) params)
params-placeless ids [] = refl
params-placeless ids (param ∷ params) = ap (λ rest. param_spelled (param_partner ids param) ∷ rest) (params-placeless ids params)

block-placeless : (ids : Ids) (insts : List KernelInst)
    → map placeless (map inst_spelled (map (inst_partner ids) insts ++ end_of_block ∷ []) ++ (spelled op.FunctionEnd [] ∷ []))
    ≡ map inst_spelled (map (inst_partner ids) insts ++ end_of_block ∷ []) ++ (spelled op.FunctionEnd [] ∷ [])
block-placeless ids [] = refl
block-placeless ids (inst ∷ insts) = ap (λ rest. inst_spelled (inst_partner ids inst) ∷ rest) (block-placeless ids insts)

tail-placeless : (ids : Ids) (kernel : Kernel) → map placeless (tail_of ids kernel (block_insts ids kernel)) ≡ tail_of ids kernel (block_insts ids kernel)
tail-placeless ids kernel =
    let behind = label_inst ids kernel ∷ (block_insts ids kernel ++ (spelled op.FunctionEnd [] ∷ [])) in
    map-append placeless (param_insts ids kernel) behind
    ∙ ap (λ params. params ++ map placeless behind) (params-placeless ids kernel.params)
    ∙ ap (λ rest. param_insts ids kernel ++ (label_inst ids kernel ∷ rest)) (block-placeless ids kernel.insts)

all-placeless : (needed : TypesNeeded) (types : List ℕ) (kernel : Kernel)
    → map placeless (all_insts (ids_by needed) (type_insts needed types) kernel) ≡ all_insts (ids_by needed) (type_insts needed types) kernel
all-placeless Neither types kernel =
    ap (λ tail. front_insts (ids_by Neither) kernel ++ (type_insts Neither types ++ (function_inst (ids_by Neither) ∷ tail))) (tail-placeless (ids_by Neither) kernel)
all-placeless ResultInt types kernel =
    ap (λ tail. front_insts (ids_by ResultInt) kernel ++ (type_insts ResultInt types ++ (function_inst (ids_by ResultInt) ∷ tail))) (tail-placeless (ids_by ResultInt) kernel)
all-placeless ParamInt types kernel =
    ap (λ tail. front_insts (ids_by ParamInt) kernel ++ (type_insts ParamInt types ++ (function_inst (ids_by ParamInt) ∷ tail))) (tail-placeless (ids_by ParamInt) kernel)
all-placeless ParamPointer types kernel =
    ap (λ tail. front_insts (ids_by ParamPointer) kernel ++ (type_insts ParamPointer types ++ (function_inst (ids_by ParamPointer) ∷ tail))) (tail-placeless (ids_by ParamPointer) kernel)

-- what stands at a place of equal lists is equal
nothing : RawInst
nothing = record { op = 0; place = 0; operands = [] }

same-at : (insts others : List RawInst) (k : ℕ) → insts ≡ others → get_or insts k nothing ≡ get_or others k nothing
same-at insts others k same = ap (λ is. get_or is k nothing) same

word-at : (inst other : RawInst) (k : ℕ) → inst ≡ other → get_or inst.operands k 0 ≡ get_or other.operands k 0
word-at inst other k same = ap (λ i. get_or i.operands k 0) same

op-of : (inst other : RawInst) → inst ≡ other → inst.op ≡ other.op
op-of inst other same = ap (λ i. i.op) same

-- the name
names-same : (text other : List ℕ) → IsUtf8 text → IsUtf8 other → All (λ byte. byte ≢ 0) text → All (λ byte. byte ≢ 0) other
    → text_words text ≡ text_words other → text ≡ other
names-same text other utf8 other_utf8 no_zero other_no_zero same =
    let first = string-reads_back text (text_words text) [] utf8 no_zero (text-are_words text (utf8-bytes text utf8)) in
    let second = string-reads_back other (text_words other) [] other_utf8 other_no_zero (text-are_words other (utf8-bytes other other_utf8)) in
    let At : List ℕ → Type 0 = λ ws. BeginsString ws other (length (text_words other)) in
    (one-string (text_words text ++ []) text other (length (text_words text)) (length (text_words other)) first
    (subst At (ap (λ ws. ws ++ []) (sym same)) second)).0

-- which types there are
second-type : (needed : TypesNeeded) (types : List ℕ) (rest : List RawInst)
    → get_or (type_insts needed types ++ rest) 1 nothing ≡ get_or (type_insts needed types) 1 nothing
second-type Neither types rest = refl
second-type ResultInt types rest = refl
second-type ParamInt types rest = refl
second-type ParamPointer types rest = refl

needed-same : (needed other : TypesNeeded) (types others : List ℕ) → (ids_by needed).function ≡ (ids_by other).function
    → (get_or (type_insts needed types) 1 nothing).op ≡ (get_or (type_insts other others) 1 nothing).op → needed ≡ other
needed-same Neither Neither types others function second = refl
needed-same Neither ResultInt types others function second = absurd (omega arith)
needed-same Neither ParamInt types others function second = absurd (omega arith)
needed-same Neither ParamPointer types others function second = absurd (omega arith)
needed-same ResultInt Neither types others function second = absurd (omega arith)
needed-same ResultInt ResultInt types others function second = refl
needed-same ResultInt ParamInt types others function second = absurd (omega arith)
needed-same ResultInt ParamPointer types others function second = absurd (omega arith)
needed-same ParamInt Neither types others function second = absurd (omega arith)
needed-same ParamInt ResultInt types others function second = absurd (omega arith)
needed-same ParamInt ParamInt types others function second = refl
needed-same ParamInt ParamPointer types others function second = absurd (omega arith)
needed-same ParamPointer Neither types others function second = absurd (omega arith)
needed-same ParamPointer ResultInt types others function second = absurd (omega arith)
needed-same ParamPointer ParamInt types others function second = absurd (omega arith)
needed-same ParamPointer ParamPointer types others function second = refl

-- parameters
types-told : (needed : TypesNeeded) (t u : ValueType) → is_listed needed t ≡ true → is_listed needed u ≡ true
    → value_type_id (ids_by needed) t ≡ value_type_id (ids_by needed) u → t ≡ u
types-told needed i32 i32 listed other same = refl
types-told needed i32_pointer i32_pointer listed other same = refl
types-told Neither i32 i32_pointer listed other same = absurd (false≢true listed)
types-told ResultInt i32 i32_pointer listed other same = absurd (false≢true other)
types-told ParamInt i32 i32_pointer listed other same = absurd (false≢true other)
types-told ParamPointer i32 i32_pointer listed other same = absurd (omega arith)
types-told Neither i32_pointer i32 listed other same = absurd (false≢true listed)
types-told ResultInt i32_pointer i32 listed other same = absurd (false≢true listed)
types-told ParamInt i32_pointer i32 listed other same = absurd (false≢true listed)
types-told ParamPointer i32_pointer i32 listed other same = absurd (omega arith)

number-told : (function n m : ℕ) → function + n ≡ function + m → n ≡ m
number-told function n m same = omega arith

param-told : (needed : TypesNeeded) (param other : KernelParam) → HasParamType needed param → HasParamType needed other
    → param_spelled (param_partner (ids_by needed) param) ≡ param_spelled (param_partner (ids_by needed) other) → bare_param param ≡ bare_param other
param-told needed param other listed other_listed same =
    let type = types-told needed param.value_type other.value_type listed other_listed (ap (λ i. get_or i.operands 0 0) same) in
    let number = number-told (ids_by needed).function param.name.number other.name.number (ap (λ i. get_or i.operands 1 0) same) in
    λ i. record { value_type = type i; name = record { number = number i; byte = 0 } }

pub record SameBehind (params others : List KernelParam) (label other_label : ℕ) (behind other_behind : List RawInst) : Type 0 where
  pub same_params : map bare_param params ≡ map bare_param others
  pub same_label : label ≡ other_label
  pub same_behind : behind ≡ other_behind

abbrev Labelled : TypesNeeded → List KernelParam → ℕ → List RawInst → List RawInst
Labelled needed params label behind = map param_spelled (map (param_partner (ids_by needed)) params) ++ (spelled op.Label (label ∷ []) ∷ behind)

params-told : (needed : TypesNeeded) (params others : List KernelParam) (label other_label : ℕ) (behind other_behind : List RawInst)
    → All (HasParamType needed) params → All (HasParamType needed) others
    → Labelled needed params label behind ≡ Labelled needed others other_label other_behind
    → SameBehind params others label other_label behind other_behind
params-told needed [] [] label other_label behind other_behind listed other_listed same =
    record { same_params = refl; same_label = ap (λ is. get_or (get_or is 0 nothing).operands 0 0) same; same_behind = ap (drop 1) same }
params-told needed [] (other ∷ others) label other_label behind other_behind listed other_listed same =
    let ops = ap (λ is. (get_or is 0 nothing).op) same in
    absurd (omega arith)
params-told needed (param ∷ params) [] label other_label behind other_behind listed other_listed same =
    let ops = ap (λ is. (get_or is 0 nothing).op) same in
    absurd (omega arith)
params-told needed (param ∷ params) (other ∷ others) label other_label behind other_behind listed other_listed same =
    let here = param-told needed param other (All-head (HasParamType needed) param params listed) (All-head (HasParamType needed) other others other_listed)
    (ap (λ is. get_or is 0 nothing) same) in
    let rest = params-told needed params others label other_label behind other_behind (All-tail (HasParamType needed) param params listed)
    (All-tail (HasParamType needed) other others other_listed) (ap (drop 1) same) in
    record {
      same_params = ap (λ p. p ∷ map bare_param params) here ∙ ap (λ ps. bare_param other ∷ ps) rest.same_params;
      same_label = rest.same_label;
      same_behind = rest.same_behind;
    }

-- instructions
inst-told : (ids : Ids) (inst other : KernelInst) → inst_spelled (inst_partner ids inst) ≡ inst_spelled (inst_partner ids other) → bare_inst inst ≡ bare_inst other
inst-told ids (Add sum left right) (Add sum2 left2 right2) same =
    let first = number-told ids.function sum.number sum2.number (ap (λ i. get_or i.operands 1 0) same) in
    let second = number-told ids.function left.number left2.number (ap (λ i. get_or i.operands 2 0) same) in
    let third = number-told ids.function right.number right2.number (ap (λ i. get_or i.operands 3 0) same) in
    λ i. Add (record { number = first i; byte = 0 }) (record { number = second i; byte = 0 }) (record { number = third i; byte = 0 })
inst-told ids (Load loaded pointer is_aligned) (Load loaded2 pointer2 is_aligned2) same =
    let first = number-told ids.function loaded.number loaded2.number (ap (λ i. get_or i.operands 1 0) same) in
    let second = number-told ids.function pointer.number pointer2.number (ap (λ i. get_or i.operands 2 0) same) in
    λ i. Load (record { number = first i; byte = 0 }) (record { number = second i; byte = 0 }) true
inst-told ids (Store value pointer is_aligned) (Store value2 pointer2 is_aligned2) same =
    let first = number-told ids.function pointer.number pointer2.number (ap (λ i. get_or i.operands 0 0) same) in
    let second = number-told ids.function value.number value2.number (ap (λ i. get_or i.operands 1 0) same) in
    λ i. Store (record { number = second i; byte = 0 }) (record { number = first i; byte = 0 }) true
inst-told ids (Add sum left right) (Load loaded pointer is_aligned) same = let ops = ap (λ i. i.op) same in absurd (omega arith)
inst-told ids (Add sum left right) (Store value pointer is_aligned) same = let ops = ap (λ i. i.op) same in absurd (omega arith)
inst-told ids (Load loaded pointer is_aligned) (Add sum left right) same = let ops = ap (λ i. i.op) same in absurd (omega arith)
inst-told ids (Load loaded pointer is_aligned) (Store value pointer2 is_aligned2) same = let ops = ap (λ i. i.op) same in absurd (omega arith)
inst-told ids (Store value pointer is_aligned) (Add sum left right) same = let ops = ap (λ i. i.op) same in absurd (omega arith)
inst-told ids (Store value pointer is_aligned) (Load loaded pointer2 is_aligned2) same = let ops = ap (λ i. i.op) same in absurd (omega arith)

not-end : (ids : Ids) (inst : KernelInst) → inst_spelled (inst_partner ids inst) ≡ inst_spelled end_of_block → ⊥
not-end ids (Add sum left right) same = let ops = ap (λ i. i.op) same in omega arith
not-end ids (Load loaded pointer is_aligned) same = let ops = ap (λ i. i.op) same in omega arith
not-end ids (Store value pointer is_aligned) same = let ops = ap (λ i. i.op) same in omega arith

abbrev Ended : Ids → List KernelInst → List RawInst
Ended ids insts = map inst_spelled (map (inst_partner ids) insts ++ end_of_block ∷ []) ++ (spelled op.FunctionEnd [] ∷ [])

insts-told : (ids : Ids) (insts others : List KernelInst) → Ended ids insts ≡ Ended ids others → map bare_inst insts ≡ map bare_inst others
insts-told ids [] [] same = refl
insts-told ids [] (other ∷ others) same = absurd (not-end ids other (sym (ap (λ is. get_or is 0 nothing) same)))
insts-told ids (inst ∷ insts) [] same = absurd (not-end ids inst (ap (λ is. get_or is 0 nothing) same))
insts-told ids (inst ∷ insts) (other ∷ others) same =
    let here = inst-told ids inst other (ap (λ is. get_or is 0 nothing) same) in
    let rest = insts-told ids insts others (ap (drop 1) same) in
    ap (λ i. i ∷ map bare_inst insts) here ∙ ap (λ is. bare_inst other ∷ is) rest

-- what stands behind the function's first instruction
tails-same : (needed : TypesNeeded) (types others : List ℕ) (kernel other : Kernel)
    → all_insts (ids_by needed) (type_insts needed types) kernel ≡ all_insts (ids_by needed) (type_insts needed others) other
    → tail_of (ids_by needed) kernel (block_insts (ids_by needed) kernel) ≡ tail_of (ids_by needed) other (block_insts (ids_by needed) other)
tails-same Neither types others kernel other same = ap (drop 7) same
tails-same ResultInt types others kernel other same = ap (drop 8) same
tails-same ParamInt types others kernel other same = ap (drop 8) same
tails-same ParamPointer types others kernel other same = ap (drop 9) same

pub record SameFunction (kernel other : Kernel) : Type 0 where
  pub params : map bare_param kernel.params ≡ map bare_param other.params
  pub block : kernel.block.number ≡ other.block.number
  pub insts : map bare_inst kernel.insts ≡ map bare_inst other.insts

functions-same : (needed : TypesNeeded) (types others : List ℕ) (kernel other : Kernel) → All (HasParamType needed) kernel.params → All (HasParamType needed) other.params
    → all_insts (ids_by needed) (type_insts needed types) kernel ≡ all_insts (ids_by needed) (type_insts needed others) other → SameFunction kernel other
functions-same needed types others kernel other listed other_listed same =
    let ids = ids_by needed in
    let behind = params-told needed kernel.params other.params (id_of ids kernel.block) (id_of ids other.block) (Ended ids kernel.insts) (Ended ids other.insts)
    listed other_listed (tails-same needed types others kernel other same) in
    record {
      params = behind.same_params;
      block = number-told ids.function kernel.block.number other.block.number behind.same_label;
      insts = insts-told ids kernel.insts other.insts behind.same_behind;
    }

parts-same : (needed next : TypesNeeded) (types others : List ℕ) (kernel other : Kernel) → HasPlainName kernel → HasPlainName other
    → All (HasParamType needed) kernel.params → All (HasParamType next) other.params
    → all_insts (ids_by needed) (type_insts needed types) kernel ≡ all_insts (ids_by next) (type_insts next others) other → IsSameKernel kernel other
parts-same needed next types others kernel other plain other_plain listed other_listed same =
    let entry = ap (λ is. (get_or is 3 nothing).operands) same in
    let words = sym (append-nil (text_words (name_bytes kernel))) ∙ ap (drop 2) entry ∙ append-nil (text_words (name_bytes other)) in
    let function = ap (λ ws. get_or ws 1 0) entry in
    let rest = function_inst (ids_by needed) ∷ tail_of (ids_by needed) kernel (block_insts (ids_by needed) kernel) in
    let other_rest = function_inst (ids_by next) ∷ tail_of (ids_by next) other (block_insts (ids_by next) other) in
    let second = ap (λ i. i.op) (sym (second-type needed types rest) ∙ ap (λ is. get_or is 5 nothing) same ∙ second-type next others other_rest) in
    let one : needed ≡ next = needed-same needed next types others function second in
    let Told : TypesNeeded → Type 0 = λ n. All (HasParamType n) other.params
    → all_insts (ids_by needed) (type_insts needed types) kernel ≡ all_insts (ids_by n) (type_insts n others) other → SameFunction kernel other in
    let told : SameFunction kernel other = subst Told one (functions-same needed types others kernel other listed) other_listed same in
    record {
      name = names-same (name_bytes kernel) (name_bytes other) plain.utf8 other_plain.utf8 plain.no_zero other_plain.no_zero words;
      params = told.params;
      block = told.block;
      insts = told.insts;
    }

pub kernels-same : (kernel other : Kernel) → IsNumbered kernel → IsNumbered other → IsWithinLimits kernel → IsWithinLimits other
    → HasPlainName kernel → HasPlainName other
    → module_words (flattened (partner kernel)) ≡ module_words (flattened (partner other)) → IsSameKernel kernel other
kernels-same kernel other numbered other_numbered within other_within plain other_plain same =
    let needed = needed_by kernel.params kernel.insts in
    let next = needed_by other.params other.insts in
    let types = param_type_ids needed (row_of_params kernel.params) (row_of_params kernel.params) in
    let others = param_type_ids next (row_of_params other.params) (row_of_params other.params) in
    let bytes = words_bytes Little (module_words (flattened (partner kernel))) in
    let first : IsSpirv bytes (flattened (partner kernel)) = record { spelled = refl; right = framing-kept kernel numbered within plain } in
    let second : IsSpirv bytes (flattened (partner other)) = record { spelled = ap (words_bytes Little) same; right = framing-kept other other_numbered other_within other_plain } in
    let raw = one-module bytes (flattened (partner kernel)) (flattened (partner other)) first second in
    let insts : map placeless (sections (partner kernel)) ≡ map placeless (sections (partner other)) =
    sym (placed-placeless 5 (sections (partner kernel))) ∙ ap (λ r. map placeless r.insts) raw ∙ placed-placeless 5 (sections (partner other)) in
    parts-same needed next types others kernel other plain other_plain (params-listed kernel.params kernel.insts) (params-listed other.params other.insts)
    (sym (all-placeless needed types kernel)
    ∙ ap (map placeless) (sym (partner-parts kernel needed refl))
    ∙ insts
    ∙ ap (map placeless) (partner-parts other next refl)
    ∙ all-placeless next others other)
