-- The widths of literal numbers by the instructions that define their types (SPIR-V 1.2, 2.2.1 "Literal").
use Rattle.std.specs.Prelude.{ℕ, ◌==◌, Bool, false, if◌then◌else◌, List, [], ◌∷◌, slice_get, Option, Some, None}
use Rattle.spv_codec.specs.declared.module.RawInst.{RawInst}
use Rattle.spv_codec.specs.Ids.{kinds_of, is_id}
use Rattle.spv_layout.specs.declared.opcode.Opcode.TheVariants as op
use Rattle.spv_layout.specs.declared.operands.OperandKind.{OperandKind}
use Rattle.spv_layout.specs.declared.operands.OperandKind.TheVariants.{T}
use Rattle.spv_layout.specs.Forms.{number_of}
use Rattle.spv_names.specs.Definitions.{definition_of}

-- whether a definition is an integer type of 64 bits
abbrev pub is_wide_type : Option RawInst → Bool
is_wide_type None = false
is_wide_type (Some inst) = if inst.op == number_of op.TypeInt then is_id 64 (slice_get inst.operands 1) else false

-- the type of a result, where a form has one
abbrev pub type_by : List OperandKind → List ℕ → Option ℕ
type_by (T ∷ kinds) (type ∷ words) = Some type
type_by kinds words = None

unfoldable pub type_of : RawInst → Option ℕ
type_of inst = if inst.op == number_of op.TypeInt then None else type_by (kinds_of inst.op) inst.operands

abbrev pub option_type : Option RawInst → Option ℕ
option_type None = None
option_type (Some inst) = type_of inst

abbrev pub is_wide_selector : List RawInst → Option ℕ → Bool
is_wide_selector before None = false
is_wide_selector before (Some type) = is_wide_type (definition_of before type)

-- whether literal numbers take two words, behind these instructions, in an instruction of this opcode with this first operand: the type
-- of an OpConstant, or the selector of an OpSwitch
abbrev pub wide_by : List RawInst → ℕ → ℕ → Bool
wide_by before number first =
    if number == number_of op.Constant then is_wide_type (definition_of before first)
    else (if number == number_of op.Switch then is_wide_selector before (option_type (definition_of before first)) else false)

abbrev pub wide_words : List RawInst → ℕ → List ℕ → Bool
wide_words before number [] = false
wide_words before number (first ∷ words) = wide_by before number first
