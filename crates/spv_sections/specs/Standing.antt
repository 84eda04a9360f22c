-- Where instructions may stand (SPIR-V 1.2, 2.4 "Logical Layout of a Module").
use Rattle.std.specs.Prelude.{ℕ, ◌==◌, Bool, true, false, if◌then◌else◌, List, ◌∷◌, Option, Some, None}
use Rattle.spv_codec.specs.declared.module.RawInst.{RawInst}
use Rattle.spv_layout.specs.declared.opcode.Opcode.{Opcode}
use Rattle.spv_layout.specs.declared.opcode.Opcode.TheVariants.{Nop, SourceContinued, Source, SourceExtension, Name, MemberName, String, Line, Extension, ExtInstImport, MemoryModel, EntryPoint, ExecutionMode, Capability, TypeVoid, TypeBool, TypeInt, TypeVector, TypeArray, TypeStruct, TypePointer, TypeFunction, ConstantTrue, ConstantFalse, Constant, ConstantComposite, ConstantNull, Variable, Decorate, MemberDecorate, DecorationGroup, GroupDecorate, NoLine, ModuleProcessed}
use Rattle.spv_layout.specs.Forms.{opcode_of}
use Rattle.spv_sections.specs.declared.standing.Section.{Section}
use Rattle.spv_sections.specs.declared.standing.Section.TheVariants as section
use Rattle.spv_sections.specs.declared.standing.Standing.{Standing}
use Rattle.spv_sections.specs.declared.standing.Standing.TheVariants.{Anywhere, LastTwo, In}

-- how many sections stand before a section
abbrev pub rank_of : Section → ℕ
rank_of section.Capabilities = 0
rank_of section.Extensions = 1
rank_of section.Imports = 2
rank_of section.MemoryModel = 3
rank_of section.EntryPoints = 4
rank_of section.Modes = 5
rank_of section.Sources = 6
rank_of section.Names = 7
rank_of section.Processes = 8
rank_of section.Annotations = 9
rank_of section.Declarations = 10
rank_of section.Functions = 11

-- a variable of class Function stands in a function, any other one in the last two sections
abbrev pub variable_standing : List ℕ → Standing
variable_standing (type ∷ id ∷ class ∷ rest) = if class == 7 then In section.Functions else LastTwo
variable_standing operands = LastTwo

abbrev pub opcode_standing : Opcode → Standing
opcode_standing Nop = Anywhere
opcode_standing Line = LastTwo
opcode_standing NoLine = LastTwo
opcode_standing Variable = LastTwo
opcode_standing Capability = In section.Capabilities
opcode_standing Extension = In section.Extensions
opcode_standing ExtInstImport = In section.Imports
opcode_standing MemoryModel = In section.MemoryModel
opcode_standing EntryPoint = In section.EntryPoints
opcode_standing ExecutionMode = In section.Modes
opcode_standing SourceContinued = In section.Sources
opcode_standing Source = In section.Sources
opcode_standing SourceExtension = In section.Sources
opcode_standing String = In section.Sources
opcode_standing Name = In section.Names
opcode_standing MemberName = In section.Names
opcode_standing ModuleProcessed = In section.Processes
opcode_standing Decorate = In section.Annotations
opcode_standing MemberDecorate = In section.Annotations
opcode_standing DecorationGroup = In section.Annotations
opcode_standing GroupDecorate = In section.Annotations
opcode_standing TypeVoid = In section.Declarations
opcode_standing TypeBool = In section.Declarations
opcode_standing TypeInt = In section.Declarations
opcode_standing TypeVector = In section.Declarations
opcode_standing TypeArray = In section.Declarations
opcode_standing TypeStruct = In section.Declarations
opcode_standing TypePointer = In section.Declarations
opcode_standing TypeFunction = In section.Declarations
opcode_standing ConstantTrue = In section.Declarations
opcode_standing ConstantFalse = In section.Declarations
opcode_standing Constant = In section.Declarations
opcode_standing ConstantComposite = In section.Declarations
opcode_standing ConstantNull = In section.Declarations
opcode_standing opcode = In section.Functions

abbrev pub standing_at : Option Opcode → List ℕ → Standing
standing_at None operands = In section.Functions
standing_at (Some Variable) operands = variable_standing operands
standing_at (Some opcode) operands = opcode_standing opcode

-- where an instruction may stand
unfoldable pub standing_of : RawInst → Standing
standing_of inst = standing_at (opcode_of inst.op) inst.operands

-- whether an instruction that may stand there belongs to the functions wherever it stands
abbrev pub in_functions : Standing → Bool
in_functions (In section.Functions) = true
in_functions standing = false

abbrev pub begins_functions : RawInst → Bool
begins_functions inst = in_functions (standing_of inst)
