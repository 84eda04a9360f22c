-- The instructions of a kernel's module break no rule of framing.
use Rattle.std.proofs.Common.{◌≡◌, ◌≢◌, ℕ, ◌+◌, ◌/◌, ◌<◌, ◌≤◌, ◌^◌, true, List, [], ◌∷◌, ◌++◌, map, length, get_or, All, Ok, Option, None, Some, refl, sym, ◌∙◌, ap, subst, arith, append-nil, length-append}
use Rattle.std.specs.Prelude.{IsUtf8, if◌then◌else◌, not}
use Rattle.std.proofs.lemmas.List.Elements.{All-nil, All-cons, All-head, All-tail, All-append, All-map, All-from_recursion}
use Rattle.std.proofs.lemmas.Bool.Decides.{nat_tests}
use Rattle.spv_words.specs.declared.words.Order.TheVariants.{Little}
use Rattle.spv_words.specs.Strings.{BeginsString, terminated}
use Rattle.spv_words.specs.Words.{IsWords}
use Rattle.spv_words.proofs.StringLaws.{string-reads_back}
use Rattle.spv_codec.specs.declared.ids.IdKind.{IdKind}
use Rattle.spv_codec.specs.declared.module.RawInst.{RawInst}
use Rattle.spv_codec.specs.Framing.{IsRight, header_fault, fault_at, is_bound}
use Rattle.spv_codec.specs.Ids.{ids_of}
use Rattle.spv_codec.specs.Instructions.{operands_rule, reading_rule, spelling, spellings, Fits, AllFit}
use Rattle.spv_codec.specs.Operands.{and_then, read_string}
use Rattle.spv_codec.proofs.InstLemmas.{spellings-more}
use Rattle.spv_codec.proofs.ReadGroups.{string-read}
use Rattle.spv_layout.specs.declared.opcode.Opcode.TheVariants as op
use Rattle.spv_module.specs.Spelled.{spelled, param_spelled, entry_spelled, id_at}
use Rattle.spv_module.specs.Sections.{sections, placed, flattened}
use Rattle.spv_module.specs.Texts.{text_words}
use Rattle.spv_module.specs.Woven.{inst_spelled}
use Rattle.kernel_tree.specs.declared.kernel.Kernel.{Kernel}
use Rattle.kernel_tree.specs.declared.kernel.KernelInst.{KernelInst}
use Rattle.kernel_tree.specs.declared.kernel.KernelInst.TheVariants.{Add, Load, Store}
use Rattle.kernel_tree.specs.declared.kernel.KernelParam.{KernelParam}
use Rattle.kernel_tree.specs.declared.kernel.ValueType.{ValueType}
use Rattle.kernel_tree.specs.declared.kernel.ValueType.TheVariants.{Int as i32, Pointer as i32_pointer}
use Rattle.kernel_tree.specs.Numbered.{IsNumbered, name_bytes}
use Rattle.to_spirv.specs.declared.ids.Ids.{Ids}
use Rattle.to_spirv.specs.declared.types.TypesNeeded.{TypesNeeded}
use Rattle.to_spirv.specs.declared.types.TypesNeeded.TheVariants.{Neither, ResultInt, ParamInt, ParamPointer}
use Rattle.to_spirv.specs.TypeTrees.{TypeRow, place_of}
use Rattle.to_spirv.specs.KernelTypes.{row_of_params, tree_of}
use Rattle.to_spirv.specs.ClosedTypes.{listed_by, ids_by, needed_by}
use Rattle.to_spirv.specs.Limits.{HasPlainName, IsWithinLimits}
use Rattle.to_spirv.specs.Partner.{named_types, partner, bound_of, bound_over, id_of, value_type_id, param_partner, inst_partner, end_of_block, entry_partner}
use Rattle.to_spirv.specs.Ranges.{HasInstIds, HasParamId, HasIds}
use Rattle.to_spirv.proofs.LimitLemmas.{AreSmall, within-small, partner-parts, length-entry}
use Rattle.to_spirv.proofs.NumberLemmas.{numbered-ids}
use Rattle.to_spirv.proofs.SectionLemmas.{param_type_ids, type_insts, front_insts, function_inst, param_insts, label_inst, block_insts, tail_of, all_insts, length-param_types}
use Rattle.to_spirv.proofs.TextLemmas.{text-are_words}
use Rattle.to_spirv.proofs.TypeLemmas.{kernel_ids-closed}
use Rattle.to_spirv.proofs.Utf8Lemmas.{utf8-bytes}

abbrev IsWord : ℕ → Type 0
IsWord word = word < 2 ^ 32

-- an instruction breaks no rule, whatever is known of ids
pub record FitsAnywhere (inst : RawInst) : Type 0 where
  pub right : (ids : ℕ → Option IdKind) → operands_rule ids inst.op inst.operands ≡ None
  pub op : inst.op < 65536
  pub short : length inst.operands < 65535
  pub in_range : All (λ word. word < 2 ^ 32) inst.operands

-- such instructions fit behind any others, where their places follow on
placed-fit : (before insts : List RawInst) → All FitsAnywhere insts → AllFit before (placed (5 + length (spellings before)) insts)
placed-fit before [] fit = tt
placed-fit before (inst ∷ insts) fit =
    let here = All-head FitsAnywhere inst insts fit in
    let place = 5 + length (spellings before) in
    let at : RawInst = record { op = inst.op; place = place; operands = inst.operands } in
    let next : 5 + length (spellings (before ++ at ∷ [])) ≡ place + (length inst.operands + 1) =
    omega (arith, ap length (spellings-more before at), length-append (spellings before) (spelling at)) in
    let fits : Fits before at = record { right = here.right (ids_of before); op = here.op; short = here.short; in_range = here.in_range; placed = refl } in
    (fits, subst (λ (n : ℕ). AllFit (before ++ at ∷ []) (placed n insts)) next (placed-fit (before ++ at ∷ []) insts (All-tail FitsAnywhere inst insts fit)))

-- the ids of types and of the function are words
record AreWords (ids : Ids) : Type 0 where
  void : ids.void < 2 ^ 32
  int : ids.int < 2 ^ 32
  pointer : ids.pointer < 2 ^ 32
  function_type : ids.function_type < 2 ^ 32
  function : ids.function < 2 ^ 32

ids-words : (needed : TypesNeeded) → AreWords (ids_by needed)
ids-words Neither = record { void = omega arith; int = omega arith; pointer = omega arith; function_type = omega arith; function = omega arith }
ids-words ResultInt = record { void = omega arith; int = omega arith; pointer = omega arith; function_type = omega arith; function = omega arith }
ids-words ParamInt = record { void = omega arith; int = omega arith; pointer = omega arith; function_type = omega arith; function = omega arith }
ids-words ParamPointer = record { void = omega arith; int = omega arith; pointer = omega arith; function_type = omega arith; function = omega arith }

inst-fits : (ids : Ids) (inst : KernelInst) → AreWords ids → HasInstIds ids inst → FitsAnywhere (inst_spelled (inst_partner ids inst))
inst-fits ids (Add sum left right) words has = record {
  right = λ known. refl;
  op = omega arith;
  short = omega arith;
  in_range = All-from_recursion IsWord (ids.int ∷ id_of ids sum ∷ id_of ids left ∷ id_of ids right ∷ []) (words.int, (has.0, (has.1, (has.2, tt))));
}
inst-fits ids (Load loaded pointer is_aligned) words has = record {
  right = λ known. refl;
  op = omega arith;
  short = omega arith;
  in_range = All-from_recursion IsWord (ids.int ∷ id_of ids loaded ∷ id_of ids pointer ∷ 2 ∷ 4 ∷ []) (words.int, (has.0, (has.1, (omega arith, (omega arith, tt)))));
}
inst-fits ids (Store value pointer is_aligned) words has = record {
  right = λ known. refl;
  op = omega arith;
  short = omega arith;
  in_range = All-from_recursion IsWord (id_of ids pointer ∷ id_of ids value ∷ 2 ∷ 4 ∷ []) (has.1, (has.0, (omega arith, (omega arith, tt))));
}

end-fits : FitsAnywhere (inst_spelled end_of_block)
end-fits = record { right = λ known. refl; op = omega arith; short = omega arith; in_range = All-nil IsWord }

block-fits : (ids : Ids) (kernel : Kernel) → AreWords ids → HasIds ids kernel → All FitsAnywhere (block_insts ids kernel)
block-fits ids kernel words has =
    let Spells : _ → Type 0 = λ i. FitsAnywhere (inst_spelled i) in
    All-map FitsAnywhere inst_spelled (map (inst_partner ids) kernel.insts ++ end_of_block ∷ [])
    (All-append Spells (map (inst_partner ids) kernel.insts) (end_of_block ∷ [])
    (All-map Spells (inst_partner ids) kernel.insts (λ k d lt. inst-fits ids (get_or kernel.insts k d) words (has.insts k d lt)))
    (All-from_recursion Spells (end_of_block ∷ []) (end-fits, tt)))

param-fits : (ids : Ids) (param : KernelParam) → AreWords ids → HasParamId ids param → FitsAnywhere (param_spelled (param_partner ids param))
param-fits ids param words has = record {
  right = λ known. refl;
  op = omega arith;
  short = omega arith;
  in_range = All-from_recursion IsWord (value_type_id ids param.value_type ∷ id_of ids param.name ∷ []) (by_type param.value_type, (has, tt));
}
  where
    by_type : (t : ValueType) → value_type_id ids t < 2 ^ 32
    by_type i32 = words.int
    by_type i32_pointer = words.pointer

-- an instruction of one id and nothing else, or of none
one-fits : (id : ℕ) → id < 2 ^ 32 → FitsAnywhere (spelled op.Label (id ∷ []))
one-fits id fits = record { right = λ known. refl; op = omega arith; short = omega arith; in_range = All-from_recursion IsWord (id ∷ []) (fits, tt) }

function_end-fits : FitsAnywhere (spelled op.FunctionEnd [])
function_end-fits = record { right = λ known. refl; op = omega arith; short = omega arith; in_range = All-nil IsWord }

tail-fits : (ids : Ids) (kernel : Kernel) → AreWords ids → HasIds ids kernel → All FitsAnywhere (tail_of ids kernel (block_insts ids kernel))
tail-fits ids kernel words has =
    let end : List RawInst = spelled op.FunctionEnd [] ∷ [] in
    let behind = block_insts ids kernel ++ end in
    let Spells : _ → Type 0 = λ p. FitsAnywhere (param_spelled p) in
    All-append FitsAnywhere (param_insts ids kernel) (label_inst ids kernel ∷ behind)
    (All-map FitsAnywhere param_spelled (map (param_partner ids) kernel.params)
    (All-map Spells (param_partner ids) kernel.params (λ k d lt. param-fits ids (get_or kernel.params k d) words (has.params k d lt))))
    (All-cons FitsAnywhere (label_inst ids kernel) behind (one-fits (id_of ids kernel.block) has.block)
    (All-append FitsAnywhere (block_insts ids kernel) end (block-fits ids kernel words has) (All-from_recursion FitsAnywhere end (function_end-fits, tt))))

function-fits : (ids : Ids) → AreWords ids → FitsAnywhere (function_inst ids)
function-fits ids words = record {
  right = λ known. refl;
  op = omega arith;
  short = omega arith;
  in_range = All-from_recursion IsWord (ids.void ∷ ids.function ∷ 0 ∷ ids.function_type ∷ []) (words.void, (words.function, (omega arith, (words.function_type, tt))));
}

-- the types
literal-fits : (inst : RawInst) → ((known : ℕ → Option IdKind) → operands_rule known inst.op inst.operands ≡ None) → inst.op < 65536 → length inst.operands < 65535
    → All IsWord inst.operands → FitsAnywhere inst
literal-fits inst right op short in_range = record { right = right; op = op; short = short; in_range = in_range }

void-fits : FitsAnywhere (spelled op.TypeVoid (1 ∷ []))
void-fits = record { right = λ known. refl; op = omega arith; short = omega arith; in_range = All-from_recursion IsWord (1 ∷ []) (omega arith, tt) }

int-fits : (id : ℕ) → id < 2 ^ 32 → FitsAnywhere (spelled op.TypeInt (id ∷ 32 ∷ 0 ∷ []))
int-fits id fits = record {
  right = λ known. refl;
  op = omega arith;
  short = omega arith;
  in_range = All-from_recursion IsWord (id ∷ 32 ∷ 0 ∷ []) (fits, (omega arith, (omega arith, tt)));
}

pointer-fits : FitsAnywhere (spelled op.TypePointer (3 ∷ 5 ∷ 2 ∷ []))
pointer-fits = record {
  right = λ known. refl;
  op = omega arith;
  short = omega arith;
  in_range = All-from_recursion IsWord (3 ∷ 5 ∷ 2 ∷ []) (omega arith, (omega arith, (omega arith, tt)));
}

function_type-fits : (id : ℕ) (params : List ℕ) → id < 2 ^ 32 → All IsWord params → length params + 3 ≤ 65535 → FitsAnywhere (spelled op.TypeFunction (id ∷ 1 ∷ params))
function_type-fits id params fits in_range few = record {
  right = λ known. refl;
  op = omega arith;
  short = omega arith;
  in_range = All-cons IsWord id (1 ∷ params) fits (All-cons IsWord 1 params (omega arith) in_range);
}

types-fit : (needed : TypesNeeded) (params : List ℕ) → All IsWord params → length params + 3 ≤ 65535 → All FitsAnywhere (type_insts needed params)
types-fit Neither params in_range few =
    All-from_recursion FitsAnywhere (type_insts Neither params) (void-fits, (function_type-fits 2 params (omega arith) in_range few, tt))
types-fit ResultInt params in_range few =
    All-from_recursion FitsAnywhere (type_insts ResultInt params) (void-fits, (function_type-fits 2 params (omega arith) in_range few, (int-fits 3 (omega arith), tt)))
types-fit ParamInt params in_range few =
    All-from_recursion FitsAnywhere (type_insts ParamInt params) (void-fits, (int-fits 2 (omega arith), (function_type-fits 3 params (omega arith) in_range few, tt)))
types-fit ParamPointer params in_range few =
    All-from_recursion FitsAnywhere (type_insts ParamPointer params)
    (void-fits, (int-fits 2 (omega arith), (pointer-fits, (function_type-fits 4 params (omega arith) in_range few, tt))))

-- the ids of the parameters' types are words
param_types-words : (needed : TypesNeeded) (row : TypeRow) (params : List KernelParam) → All IsWord (param_type_ids needed row (row_of_params params))
param_types-words needed row [] = All-nil IsWord
param_types-words needed row (param ∷ params) =
    All-from_one (id_at (named_types (listed_by needed row)).names (record { 0 = place_of (tree_of param.value_type) (listed_by needed row) })) (param_type_ids needed row (row_of_params params))
    (by_type needed param.value_type) (param_types-words needed row params)
  where
    All-from_one : (id : ℕ) (ids : List ℕ) → id < 2 ^ 32 → All IsWord ids → All IsWord (id ∷ ids)
    All-from_one id ids here behind = All-cons IsWord id ids here behind

    by_type : (n : TypesNeeded) (t : ValueType) → id_at (named_types (listed_by n row)).names (record { 0 = place_of (tree_of t) (listed_by n row) }) < 2 ^ 32
    by_type Neither i32 = omega arith
    by_type Neither i32_pointer = omega arith
    by_type ResultInt i32 = omega arith
    by_type ResultInt i32_pointer = omega arith
    by_type ParamInt i32 = omega arith
    by_type ParamInt i32_pointer = omega arith
    by_type ParamPointer i32 = omega arith
    by_type ParamPointer i32_pointer = omega arith

-- the entry point
entry-right : (function : ℕ) (text words : List ℕ) → IsUtf8 text → All (λ byte. byte ≢ 0) text → IsWords (terminated text) Little words
    → (known : ℕ → Option IdKind) → operands_rule known 15 (6 ∷ function ∷ words) ≡ None
entry-right function text words utf8 no_zero are known =
    let back = string-reads_back text words [] utf8 no_zero are in
    let At : List ℕ → Type 0 = λ ws. BeginsString ws text (length words) in
    let string : BeginsString words text (length words) = subst At (append-nil words) back in
    let read : read_string words ≡ Ok [] = ap read_string (sym (append-nil words)) ∙ string-read words [] (text, string) in
    ap (λ r. reading_rule (and_then r (λ ws. and_then (Ok []) (λ ws2. Ok ws2)))) read

entry-fits : (ids : Ids) (kernel : Kernel) → AreWords ids → HasPlainName kernel → length (name_bytes kernel) / 4 + 4 ≤ 65535
    → FitsAnywhere (entry_spelled (entry_partner ids kernel))
entry-fits ids kernel words plain name =
    let text = name_bytes kernel in
    let are = text-are_words text (utf8-bytes text plain.utf8) in
    let none = append-nil (text_words text) in
    let count = length-entry ids kernel in
    record {
      right = λ known. ap (λ ws. operands_rule known 15 (6 ∷ ids.function ∷ ws)) none ∙ entry-right ids.function text (text_words text) plain.utf8 plain.no_zero are known;
      op = omega arith;
      short = omega arith;
      in_range = All-cons IsWord 6 (ids.function ∷ (text_words text ++ [])) (omega arith)
          (All-cons IsWord ids.function (text_words text ++ []) words.function (subst (λ (ws : List ℕ). All IsWord ws) (sym none) are.in_range));
    }

capability-fits : (number : ℕ) → ((known : ℕ → Option IdKind) → operands_rule known 17 (number ∷ []) ≡ None) → number < 2 ^ 32 → FitsAnywhere (spelled op.Capability (number ∷ []))
capability-fits number right fits = record { right = right; op = omega arith; short = omega arith; in_range = All-from_recursion IsWord (number ∷ []) (fits, tt) }

memory_model-fits : FitsAnywhere (spelled op.MemoryModel (2 ∷ 2 ∷ []))
memory_model-fits = record {
  right = λ known. refl;
  op = omega arith;
  short = omega arith;
  in_range = All-from_recursion IsWord (2 ∷ 2 ∷ []) (omega arith, (omega arith, tt));
}

parts-fit : (needed : TypesNeeded) (params : List ℕ) (kernel : Kernel) → HasIds (ids_by needed) kernel → HasPlainName kernel → AreSmall kernel
    → All IsWord params → length params ≡ length kernel.params → All FitsAnywhere (all_insts (ids_by needed) (type_insts needed params) kernel)
parts-fit needed params kernel has plain small in_range count =
    let ids = ids_by needed in
    let words = ids-words needed in
    let few = small.params in
    let tail = tail_of ids kernel (block_insts ids kernel) in
    All-append FitsAnywhere (front_insts ids kernel) (type_insts needed params ++ (function_inst ids ∷ tail))
    (All-from_recursion FitsAnywhere (front_insts ids kernel)
    (capability-fits 4 (λ known. refl) (omega arith), (capability-fits 6 (λ known. refl) (omega arith), (memory_model-fits, (entry-fits ids kernel words plain small.name, tt)))))
    (All-append FitsAnywhere (type_insts needed params) (function_inst ids ∷ tail) (types-fit needed params in_range (omega arith))
    (All-cons FitsAnywhere (function_inst ids) tail (function-fits ids words) (tail-fits ids kernel words has)))

header-right : (bound : ℕ) → 0 < bound → bound ≤ 0x3FFFFF → header_fault 0x10200 bound 0 ≡ None
header-right bound some few =
    let is : is_bound bound ≡ true = grind (arith, nat_tests) in
    ap (λ b. if not b then Some (fault_at 6 3) else None) is

pub framing-kept : (kernel : Kernel) → IsNumbered kernel → IsWithinLimits kernel → HasPlainName kernel → IsRight (flattened (partner kernel))
framing-kept kernel numbered within plain =
    let needed = needed_by kernel.params kernel.insts in
    let row = row_of_params kernel.params in
    let params = param_type_ids needed row row in
    let bound = subst (λ (i : Ids). bound_over i kernel ≤ 0x3FFFFF) (kernel_ids-closed kernel) within.bound in
    let has = numbered-ids (ids_by needed) kernel numbered bound in
    let fit = parts-fit needed params kernel has plain (within-small kernel within) (param_types-words needed row kernel.params) (length-param_types needed row kernel.params) in
    record {
      header = header-right (bound_of kernel) (omega arith) within.bound;
      generator = omega arith;
      fit = placed-fit [] (sections (partner kernel)) (subst (λ (insts : List RawInst). All FitsAnywhere insts) (sym (partner-parts kernel needed refl)) fit);
    }
