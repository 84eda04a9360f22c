-- The places at which the function section is no list of functions (SPIR-V 1.2, 2.4 "Logical Layout of a Module").
use Rattle.std.specs.Prelude.{◌≡◌, ℕ, Bool, true, false, not, if◌then◌else◌, List, [], ◌∷◌, ◌++◌, flat_map, replicate, Option, Some, None}
use Rattle.spv_codec.specs.declared.module.RawInst.{RawInst}
use Rattle.spv_layout.specs.declared.opcode.Opcode.{Opcode}
use Rattle.spv_layout.specs.declared.opcode.Opcode.TheVariants as op
use Rattle.spv_layout.specs.Forms.{opcode_of}
use Rattle.spv_names.specs.declared.functions.Part.{Part}
use Rattle.spv_names.specs.declared.functions.Part.TheVariants as part
use Rattle.spv_names.specs.declared.functions.Position.{Position}
use Rattle.spv_names.specs.declared.functions.Position.TheVariants as position
use Rattle.spv_sections.specs.declared.standing.Section.TheVariants as section
use Rattle.spv_sections.specs.declared.standing.Standing.{Standing}
use Rattle.spv_sections.specs.declared.standing.Standing.TheVariants.{LastTwo, In}
use Rattle.spv_sections.specs.Places.{place_if}
use Rattle.spv_sections.specs.Standing.{standing_of, begins_functions}

-- whether an instruction of this standing may stand inside a block
abbrev pub may_stand : Standing → Bool
may_stand (In section.Functions) = true
may_stand LastTwo = true
may_stand standing = false

-- what an instruction is in a function, where it may stand inside a block or not
abbrev pub part_at : Bool → Option Opcode → Part
part_at inner (Some op.Nop) = part.Floating
part_at inner (Some op.Line) = part.Floating
part_at inner (Some op.NoLine) = part.Floating
part_at inner (Some op.Function) = part.Start
part_at inner (Some op.FunctionParameter) = part.Parameter
part_at inner (Some op.FunctionEnd) = part.End
part_at inner (Some op.Label) = part.Label
part_at inner (Some op.Branch) = part.Terminator
part_at inner (Some op.BranchConditional) = part.Terminator
part_at inner (Some op.Switch) = part.Terminator
part_at inner (Some op.Return) = part.Terminator
part_at inner (Some op.ReturnValue) = part.Terminator
part_at inner (Some op.Unreachable) = part.Terminator
part_at true opcode = part.Inner
part_at false opcode = part.Stray

unfoldable pub part_of : RawInst → Part
part_of inst = part_at (may_stand (standing_of inst)) (opcode_of inst.op)

-- the instructions from the first one on that belongs to the functions
abbrev pub function_section : List RawInst → List RawInst
function_section [] = []
function_section (inst ∷ insts) = if begins_functions inst then inst ∷ insts else function_section insts

-- where one stands behind a part: `None` where the part doesn't fit
abbrev pub position_behind : Position → Part → Option Position
position_behind position part.Floating = Some position
position_behind position.Outside part.Start = Some position.Heading
position_behind position.Heading part.Parameter = Some position.Heading
position_behind position.Heading part.Label = Some position.Block
position_behind position.Block part.Inner = Some position.Block
position_behind position.Block part.Terminator = Some position.BetweenBlocks
position_behind position.BetweenBlocks part.Label = Some position.Block
position_behind position.BetweenBlocks part.End = Some position.Outside
position_behind position part = None

abbrev pub is_outside_functions : Position → Bool
is_outside_functions position.Outside = true
is_outside_functions position = false

-- what follows from a position that there is, or this place
abbrev pub places_from : ℕ → (Position → List ℕ) → Option Position → List ℕ
places_from place rest None = place ∷ []
places_from place rest (Some position) = rest position

-- the first place that doesn't fit, from a position on, in a module of so many words
abbrev pub misfits : ℕ → List RawInst → Position → List ℕ
misfits words [] position = place_if (not (is_outside_functions position)) words
misfits words (inst ∷ insts) position = places_from inst.place (misfits words insts) (position_behind position (part_of inst))

-- the first instruction of the function section with which it begins no list of functions, or the number of words, where it is none
abbrev pub function_places : List RawInst → ℕ → List ℕ
function_places insts words = misfits words (function_section insts) position.Outside

-- a function by how many parameters it has, and how many instructions each block has between its label and its terminator
pub record Shape : Type 0 where
  pub params : ℕ
  pub first : ℕ
  pub others : List ℕ

abbrev pub block_parts : ℕ → List Part
block_parts count = part.Label ∷ (replicate count part.Inner ++ part.Terminator ∷ [])

abbrev pub function_parts : Shape → List Part
function_parts shape =
    part.Start ∷ (replicate shape.params part.Parameter ++ (block_parts shape.first ++ (flat_map block_parts shape.others ++ part.End ∷ [])))

abbrev pub function_list : List Shape → List Part
function_list shapes = flat_map function_parts shapes

-- a part before others, but for what may stand anywhere
abbrev pub put_part : Part → List Part → List Part
put_part part.Floating parts = parts
put_part part parts = part ∷ parts

-- what instructions are in functions, but for those that may stand anywhere
abbrev pub parts_of : List RawInst → List Part
parts_of [] = []
parts_of (inst ∷ insts) = put_part (part_of inst) (parts_of insts)

-- whether some parts stand at the front of a list of functions
abbrev pub Begins : List Part → Type 0
Begins parts = (rest : List Part) × (shapes : List Shape) × (parts ++ rest ≡ function_list shapes)
