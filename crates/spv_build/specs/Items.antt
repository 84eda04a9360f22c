-- The item of a module that an instruction says, if it says one of a kind (SPIR-V 1.2, 3.32), and the items that instructions say.
use Rattle.std.specs.Prelude.{ℕ, ◌==◌, if◌then◌else◌, List, [], ◌∷◌, slice_get, Option, Some, None, Ok, Err, flat_map}
use Rattle.std.specs.Option.{option_to_list}
use Rattle.kern_types.specs.declared.class.Class.{Class}
use Rattle.spv_codec.specs.declared.module.RawInst.{RawInst}
use Rattle.spv_codec.specs.Operands.{Reading, read_string, string_text}
use Rattle.spv_layout.specs.declared.opcode.Opcode.{Opcode}
use Rattle.spv_layout.specs.declared.opcode.Opcode.TheVariants as op
use Rattle.spv_layout.specs.Forms.{number_of, opcode_of}
use Rattle.spv_module.specs.declared.module.Capability.{Capability}
use Rattle.spv_module.specs.declared.module.Constant.{Constant}
use Rattle.spv_module.specs.declared.module.ConstantValue.{ConstantValue}
use Rattle.spv_module.specs.declared.module.ConstantValue.TheVariants as value
use Rattle.spv_module.specs.declared.module.DebugString.{DebugString}
use Rattle.spv_module.specs.declared.module.Decoration.{Decoration}
use Rattle.spv_module.specs.declared.module.DecorationGroup.{DecorationGroup}
use Rattle.spv_module.specs.declared.module.Extension.{Extension}
use Rattle.spv_module.specs.declared.module.Group.{Group}
use Rattle.spv_module.specs.declared.module.Import.{Import}
use Rattle.spv_module.specs.declared.module.MemoryModel.{MemoryModel}
use Rattle.spv_module.specs.declared.module.Param.{Param}
use Rattle.spv_module.specs.declared.module.SourceVersion.{SourceVersion}
use Rattle.spv_module.specs.declared.module.Variable.{Variable}
use Rattle.spv_types.specs.Readings.{class_of}

-- the items that instructions say, in order
abbrev pub items_of : {A : Type 0} → (RawInst → Option A) → List RawInst → List A
items_of said insts = flat_map (λ inst. option_to_list (said inst)) insts

-- the bytes of the literal string that words begin with
abbrev pub text_by : List ℕ → Reading → List ℕ
text_by words (Ok rest) = string_text words
text_by words (Err fault) = []

unfoldable pub text_of : List ℕ → List ℕ
text_of words = text_by words (read_string words)

-- what an instruction of one opcode says
abbrev pub said_by : {A : Type 0} → Opcode → (ℕ → List ℕ → Option A) → RawInst → Option A
said_by opcode read inst = if inst.op == number_of opcode then read inst.place inst.operands else None

abbrev pub capability_by : ℕ → List ℕ → Option Capability
capability_by place (number ∷ rest) = Some (record { number = number; place = place })
capability_by place [] = None

abbrev pub capability_of : RawInst → Option Capability
capability_of inst = said_by op.Capability capability_by inst

abbrev pub extension_by : ℕ → List ℕ → Option Extension
extension_by place words = Some (record { name = text_of words; place = place })

abbrev pub extension_of : RawInst → Option Extension
extension_of inst = said_by op.Extension extension_by inst

abbrev pub import_by : ℕ → List ℕ → Option Import
import_by place (id ∷ words) = Some (record { id = id; name = text_of words; place = place })
import_by place [] = None

abbrev pub import_of : RawInst → Option Import
import_of inst = said_by op.ExtInstImport import_by inst

abbrev pub memory_model_by : ℕ → List ℕ → Option MemoryModel
memory_model_by place (addressing ∷ memory ∷ rest) = Some (record { addressing = addressing; memory = memory; place = place })
memory_model_by place words = None

abbrev pub memory_model_of : RawInst → Option MemoryModel
memory_model_of inst = said_by op.MemoryModel memory_model_by inst

abbrev pub string_by : ℕ → List ℕ → Option DebugString
string_by place (id ∷ words) = Some (record { id = id; text = text_of words; place = place })
string_by place [] = None

abbrev pub string_of : RawInst → Option DebugString
string_of inst = said_by op.String string_by inst

-- of a source only the version is kept
abbrev pub source_by : ℕ → List ℕ → Option SourceVersion
source_by place (language ∷ version ∷ rest) = Some (record { version = version; place = place })
source_by place words = None

abbrev pub source_of : RawInst → Option SourceVersion
source_of inst = said_by op.Source source_by inst

-- the decoration of an id, or of a member of a struct type
abbrev pub decoration_by : Option Opcode → ℕ → List ℕ → Option Decoration
decoration_by (Some op.Decorate) place (target ∷ kind ∷ words) =
    Some (record { target = target; member = None; kind = kind; words = words; place = place })
decoration_by (Some op.MemberDecorate) place (target ∷ member ∷ kind ∷ words) =
    Some (record { target = target; member = Some member; kind = kind; words = words; place = place })
decoration_by opcode place words = None

abbrev pub decoration_of : RawInst → Option Decoration
decoration_of inst = decoration_by (opcode_of inst.op) inst.place inst.operands

abbrev pub decoration_group_by : ℕ → List ℕ → Option DecorationGroup
decoration_group_by place (id ∷ rest) = Some (record { id = id; place = place })
decoration_group_by place [] = None

abbrev pub decoration_group_of : RawInst → Option DecorationGroup
decoration_group_of inst = said_by op.DecorationGroup decoration_group_by inst

abbrev pub group_by : ℕ → List ℕ → Option Group
group_by place (group ∷ targets) = Some (record { group = group; targets = targets; place = place })
group_by place [] = None

abbrev pub group_of : RawInst → Option Group
group_of inst = said_by op.GroupDecorate group_by inst

-- the number of one word or two
abbrev pub number_by : List ℕ → Option ConstantValue
number_by (low ∷ []) = Some (value.Number low None)
number_by (low ∷ high ∷ rest) = Some (value.Number low (Some high))
number_by [] = None

-- what a constant is, by the words behind its type and its id
abbrev pub value_by : Option Opcode → List ℕ → Option ConstantValue
value_by (Some op.ConstantTrue) words = Some value.True
value_by (Some op.ConstantFalse) words = Some value.False
value_by (Some op.Constant) words = number_by words
value_by (Some op.ConstantComposite) words = Some (value.Composite words)
value_by (Some op.ConstantNull) words = Some value.Null
value_by opcode words = None

abbrev pub constant_with : ℕ → ℕ → ℕ → Option ConstantValue → Option Constant
constant_with type id place None = None
constant_with type id place (Some value) = Some (record { id = id; ty = type; value = value; place = place })

abbrev pub constant_by : Option Opcode → ℕ → List ℕ → Option Constant
constant_by opcode place (type ∷ id ∷ words) = constant_with type id place (value_by opcode words)
constant_by opcode place words = None

abbrev pub constant_of : RawInst → Option Constant
constant_of inst = constant_by (opcode_of inst.op) inst.place inst.operands

abbrev pub variable_with : ℕ → ℕ → Option ℕ → ℕ → Option Class → Option Variable
variable_with type id initializer place None = None
variable_with type id initializer place (Some class) =
    Some (record { id = id; ty = type; class = class; initializer = initializer; place = place })

abbrev pub variable_by : ℕ → List ℕ → Option Variable
variable_by place (type ∷ id ∷ class ∷ words) = variable_with type id (slice_get words 0) place (class_of class)
variable_by place words = None

abbrev pub variable_of : RawInst → Option Variable
variable_of inst = said_by op.Variable variable_by inst

abbrev pub param_by : ℕ → List ℕ → Option Param
param_by place (type ∷ id ∷ rest) = Some (record { id = id; ty = type; place = place })
param_by place words = None

abbrev pub param_of : RawInst → Option Param
param_of inst = said_by op.FunctionParameter param_by inst
