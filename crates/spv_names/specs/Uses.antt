-- Which ids an instruction uses, and which instructions are dropped, so that what they use isn't looked at.
use Rattle.std.specs.Prelude.{ℕ, ◌-◌, ◌%◌, ◌==◌, nat_le, if◌then◌else◌, Bool, true, false, ◌&&◌, ◌||◌, not, List, [], ◌∷◌, ◌++◌, length, take, drop, slice_get, Option, Some, None, Ok, Err}
use Rattle.std.specs.List.{list_any}
use Rattle.spv_codec.specs.declared.module.RawInst.{RawInst}
use Rattle.spv_codec.specs.Ids.{kinds_of, is_id, ids_of, literal_width}
use Rattle.spv_codec.specs.Operands.{read_string, is_wide, Reading}
use Rattle.spv_layout.specs.declared.opcode.Opcode.{Opcode}
use Rattle.spv_layout.specs.declared.opcode.Opcode.TheVariants as op
use Rattle.spv_layout.specs.declared.operands.OperandKind.{OperandKind}
use Rattle.spv_layout.specs.declared.operands.OperandKind.TheVariants.{T, R, I, W, S, E, OptI, OptIS, ManyI, ManyII, ManyNI}
use Rattle.spv_layout.specs.Forms.{number_of, opcode_of}
use Rattle.spv_names.specs.Definitions.{definition_of}

-- the words behind a literal string
abbrev pub behind_reading : Reading → List ℕ
behind_reading (Ok rest) = rest
behind_reading (Err fault) = []

-- the words behind an operand that others follow. An enumerant that ids follow has no operands of its own.
abbrev pub words_behind : OperandKind → List ℕ → List ℕ
words_behind T words = drop 1 words
words_behind R words = drop 1 words
words_behind I words = drop 1 words
words_behind W words = drop 1 words
words_behind (E kind) words = drop 1 words
words_behind S words = behind_reading (read_string words)
words_behind kind words = []

-- the labels of the cases of an OpSwitch, each behind a number of two words or of one
abbrev pub case_ids : Bool → List ℕ → List ℕ
case_ids true (low ∷ high ∷ id ∷ words) = id ∷ case_ids true words
case_ids false (number ∷ id ∷ words) = id ∷ case_ids false words
case_ids wide words = []

-- the ids that an operand has but for that of the result, where words begin with it
abbrev pub ids_at : Bool → OperandKind → List ℕ → List ℕ
ids_at wide T words = take 1 words
ids_at wide I words = take 1 words
ids_at wide OptI words = take 1 words
ids_at wide OptIS words = take 1 words
ids_at wide ManyI words = words
ids_at wide ManyII words = words
ids_at wide ManyNI words = case_ids wide words
ids_at wide kind words = []

-- the ids that the operands of a form use, in order
abbrev pub used_ids : Bool → List OperandKind → List ℕ → List ℕ
used_ids wide [] words = []
used_ids wide (kind ∷ kinds) words = ids_at wide kind words ++ used_ids wide kinds (words_behind kind words)

-- whether the literal numbers of an instruction behind these take two words
unfoldable pub has_wide : List RawInst → RawInst → Bool
has_wide before inst = is_wide (literal_width (ids_of before) inst.op inst.operands)

-- an OpSource of OpenCL C with a version that is kept: one digit other than 0 before two others and three zeros
abbrev pub is_version : ℕ → Bool
is_version version = version % 1000 == 0 && nat_le 100000 version && nat_le version 999000

abbrev pub is_versioned_by : Option ℕ → Bool
is_versioned_by None = false
is_versioned_by (Some version) = is_version version

abbrev pub is_versioned : RawInst → Bool
is_versioned inst = inst.op == number_of op.Source && is_id 3 (slice_get inst.operands 0) && is_versioned_by (slice_get inst.operands 1)

-- decorations without a meaning here: Restrict, Aliased, Volatile, Constant and Coherent
abbrev pub is_idle : Option ℕ → Bool
is_idle None = false
is_idle (Some decoration) = nat_le 19 decoration && nat_le decoration 23

-- modes without a meaning here: VecTypeHint and ContractionOff
abbrev pub is_idle_mode : Option ℕ → Bool
is_idle_mode mode = is_id 30 mode || is_id 31 mode

-- whether a definition is a variable of class Input
abbrev pub is_input : Option RawInst → Bool
is_input None = false
is_input (Some inst) = inst.op == number_of op.Variable && is_id 1 (slice_get inst.operands 2)

-- whether the operands of an OpDecorate import a variable of class Input
abbrev pub imports_input : List RawInst → List ℕ → Bool
imports_input insts [] = false
imports_input insts (target ∷ words) =
    is_id 41 (slice_get words 0) && is_id 1 (slice_get words (length words - 1)) && is_input (definition_of insts target)

-- whether an instruction is dropped, where an earlier source is kept or not, and where it imports a variable of class Input or not
abbrev pub dropped_by : Bool → Bool → Option Opcode → RawInst → Bool
dropped_by sourced imports (Some op.Name) inst = true
dropped_by sourced imports (Some op.MemberName) inst = true
dropped_by sourced imports (Some op.Line) inst = true
dropped_by sourced imports (Some op.LoopMerge) inst = true
dropped_by sourced imports (Some op.SelectionMerge) inst = true
dropped_by sourced imports (Some op.LifetimeStart) inst = true
dropped_by sourced imports (Some op.LifetimeStop) inst = true
dropped_by sourced imports (Some op.Source) inst = sourced || not (is_versioned inst)
dropped_by sourced imports (Some op.ExecutionMode) inst = is_idle_mode (slice_get inst.operands 1)
dropped_by sourced imports (Some op.Decorate) inst = imports || is_idle (slice_get inst.operands 1)
dropped_by sourced imports (Some op.MemberDecorate) inst = is_idle (slice_get inst.operands 2)
dropped_by sourced imports opcode inst = false

-- whether an instruction of a module, behind these, is dropped. Instructions that use no ids aren't told apart.
unfoldable pub is_dropped : List RawInst → List RawInst → RawInst → Bool
is_dropped insts before inst = dropped_by (list_any is_versioned before) (imports_input insts inst.operands) (opcode_of inst.op) inst

-- the ids that an instruction uses by its form
unfoldable pub form_ids : Bool → RawInst → List ℕ
form_ids wide inst = used_ids wide (kinds_of inst.op) inst.operands

-- the ids that an instruction of a module, behind these, uses, where it isn't dropped
abbrev pub uses_of : List RawInst → List RawInst → RawInst → List ℕ
uses_of insts before inst = if is_dropped insts before inst then [] else form_ids (has_wide before inst) inst

-- those of each instruction of a module, behind others
abbrev pub uses_behind : List RawInst → List RawInst → List RawInst → List (List ℕ)
uses_behind insts before [] = []
uses_behind insts before (inst ∷ rest) = uses_of insts before inst ∷ uses_behind insts (before ++ inst ∷ []) rest

abbrev pub all_uses : List RawInst → List (List ℕ)
all_uses insts = uses_behind insts [] insts
