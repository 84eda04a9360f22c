-- Which instructions of a binary its module keeps.
use Rattle.std.specs.Prelude.{Bool, true, false, ◌||◌, List, [], ◌∷◌, ◌++◌, Option, Some}
use Rattle.spv_codec.specs.declared.module.RawInst.{RawInst}
use Rattle.spv_layout.specs.declared.opcode.Opcode.{Opcode}
use Rattle.spv_layout.specs.declared.opcode.Opcode.TheVariants as op
use Rattle.spv_layout.specs.Forms.{opcode_of}
use Rattle.spv_names.specs.Uses.{is_dropped}

-- instructions without ids that are dropped wherever they stand
abbrev pub is_silent : Option Opcode → Bool
is_silent (Some op.Nop) = true
is_silent (Some op.NoLine) = true
is_silent (Some op.SourceContinued) = true
is_silent (Some op.SourceExtension) = true
is_silent (Some op.ModuleProcessed) = true
is_silent opcode = false

-- whether an instruction of a module, behind these, leaves nothing behind
abbrev pub is_left_out : List RawInst → List RawInst → RawInst → Bool
is_left_out insts before inst = is_silent (opcode_of inst.op) || is_dropped insts before inst

abbrev pub kept_if : Bool → RawInst → List RawInst
kept_if true inst = []
kept_if false inst = inst ∷ []

-- the kept ones of some instructions of a module, behind others
abbrev pub kept_behind : List RawInst → List RawInst → List RawInst → List RawInst
kept_behind insts before [] = []
kept_behind insts before (inst ∷ rest) = kept_if (is_left_out insts before inst) inst ++ kept_behind insts (before ++ inst ∷ []) rest

-- the kept ones of a module
unfoldable pub kept_of : List RawInst → List RawInst
kept_of insts = kept_behind insts [] insts
