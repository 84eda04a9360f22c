-- The instructions that the items of a module are spelled as, where the place is still to be said (SPIR-V 1.2, 3.32).
use Rattle.std.specs.Prelude.{ℕ, List, [], ◌∷◌, ◌++◌, Option, Some, None, map, slice_get, unwrap_or, option_map}
use Rattle.kern_lanes.specs.Widths.{bits_of}
use Rattle.kern_types.specs.declared.class.Class.{Class}
use Rattle.kern_types.specs.declared.class.Class.TheVariants as class
use Rattle.kern_types.specs.declared.ty.Ty.{Ty}
use Rattle.kern_types.specs.declared.ty.Ty.TheVariants as ty
use Rattle.kern_types.specs.declared.ty.TyId.{TyId}
use Rattle.spv_codec.specs.declared.module.RawInst.{RawInst}
use Rattle.spv_layout.specs.declared.opcode.Opcode.{Opcode}
use Rattle.spv_layout.specs.declared.opcode.Opcode.TheVariants as op
use Rattle.spv_layout.specs.Forms.{number_of}
use Rattle.spv_module.specs.declared.module.Capability.{Capability}
use Rattle.spv_module.specs.declared.module.Constant.{Constant}
use Rattle.spv_module.specs.declared.module.ConstantValue.{ConstantValue}
use Rattle.spv_module.specs.declared.module.ConstantValue.TheVariants as value
use Rattle.spv_module.specs.declared.module.DebugString.{DebugString}
use Rattle.spv_module.specs.declared.module.Decoration.{Decoration}
use Rattle.spv_module.specs.declared.module.DecorationGroup.{DecorationGroup}
use Rattle.spv_module.specs.declared.module.Entry.{Entry}
use Rattle.spv_module.specs.declared.module.Extension.{Extension}
use Rattle.spv_module.specs.declared.module.Group.{Group}
use Rattle.spv_module.specs.declared.module.Import.{Import}
use Rattle.spv_module.specs.declared.module.MemoryModel.{MemoryModel}
use Rattle.spv_module.specs.declared.module.Mode.{Mode}
use Rattle.spv_module.specs.declared.module.Param.{Param}
use Rattle.spv_module.specs.declared.module.SourceVersion.{SourceVersion}
use Rattle.spv_module.specs.declared.module.Variable.{Variable}
use Rattle.spv_module.specs.declared.types.TypeName.{TypeName}
use Rattle.spv_module.specs.Texts.{text_words}

abbrev pub spelled : Opcode → List ℕ → RawInst
spelled opcode words = record { op = number_of opcode; place = 0; operands = words }

abbrev pub capability_spelled : Capability → RawInst
capability_spelled capability = spelled op.Capability (capability.number ∷ [])

abbrev pub extension_spelled : Extension → RawInst
extension_spelled extension = spelled op.Extension (text_words extension.name)

abbrev pub import_spelled : Import → RawInst
import_spelled set = spelled op.ExtInstImport (set.id ∷ text_words set.name)

abbrev pub memory_model_spelled : MemoryModel → RawInst
memory_model_spelled model = spelled op.MemoryModel (model.addressing ∷ model.memory ∷ [])

-- an entry point of the execution model Kernel, whose number is 6
abbrev pub entry_spelled : Entry → RawInst
entry_spelled entry = spelled op.EntryPoint (6 ∷ entry.function ∷ (text_words entry.name ++ entry.interface))

abbrev pub mode_spelled : ℕ → Mode → RawInst
mode_spelled function mode = spelled op.ExecutionMode (function ∷ mode.kind ∷ mode.words)

abbrev pub modes_spelled : Entry → List RawInst
modes_spelled entry = map (mode_spelled entry.function) entry.modes

abbrev pub string_spelled : DebugString → RawInst
string_spelled string = spelled op.String (string.id ∷ text_words string.text)

-- the language is OpenCL C, whose number is 3
abbrev pub source_spelled : SourceVersion → RawInst
source_spelled source = spelled op.Source (3 ∷ source.version ∷ [])

abbrev pub decoration_by : Option ℕ → Decoration → RawInst
decoration_by None decoration = spelled op.Decorate (decoration.target ∷ decoration.kind ∷ decoration.words)
decoration_by (Some member) decoration = spelled op.MemberDecorate (decoration.target ∷ member ∷ decoration.kind ∷ decoration.words)

abbrev pub decoration_spelled : Decoration → RawInst
decoration_spelled decoration = decoration_by decoration.member decoration

abbrev pub decoration_group_spelled : DecorationGroup → RawInst
decoration_group_spelled group = spelled op.DecorationGroup (group.id ∷ [])

abbrev pub group_spelled : Group → RawInst
group_spelled group = spelled op.GroupDecorate (group.group ∷ group.targets)

-- the numbers of the storage classes (SPIR-V 1.2, 3.7)
abbrev pub class_number : Class → ℕ
class_number class.Private = 7
class_number class.Global = 5
class_number class.Constant = 0
class_number class.Local = 4
class_number class.Generic = 8
class_number class.Input = 1

abbrev pub constant_by : ℕ → ℕ → ConstantValue → RawInst
constant_by type id value.True = spelled op.ConstantTrue (type ∷ id ∷ [])
constant_by type id value.False = spelled op.ConstantFalse (type ∷ id ∷ [])
constant_by type id (value.Number low None) = spelled op.Constant (type ∷ id ∷ low ∷ [])
constant_by type id (value.Number low (Some high)) = spelled op.Constant (type ∷ id ∷ low ∷ high ∷ [])
constant_by type id (value.Composite parts) = spelled op.ConstantComposite (type ∷ id ∷ parts)
constant_by type id value.Null = spelled op.ConstantNull (type ∷ id ∷ [])

abbrev pub constant_spelled : Constant → RawInst
constant_spelled constant = constant_by constant.ty constant.id constant.value

abbrev pub initializer_words : Option ℕ → List ℕ
initializer_words None = []
initializer_words (Some id) = id ∷ []

abbrev pub variable_spelled : Variable → RawInst
variable_spelled variable = spelled op.Variable (variable.ty ∷ variable.id ∷ class_number variable.class ∷ initializer_words variable.initializer)

abbrev pub param_spelled : Param → RawInst
param_spelled param = spelled op.FunctionParameter (param.ty ∷ param.id ∷ [])

-- the id of a type of the table
abbrev pub id_at : List TypeName → TyId → ℕ
id_at names place = unwrap_or (option_map (λ name. name.id) (slice_get names place.0)) 0

-- the instruction of a type, none where the table can't hold what it is
abbrev pub type_spelled : List TypeName → TypeName → Ty → Option RawInst
type_spelled names name ty.Void = Some (spelled op.TypeVoid (name.id ∷ []))
type_spelled names name ty.Bool = Some (spelled op.TypeBool (name.id ∷ []))
type_spelled names name (ty.Int width) = Some (spelled op.TypeInt (name.id ∷ bits_of width ∷ 0 ∷ []))
type_spelled names name (ty.Vector part lanes) = Some (spelled op.TypeVector (name.id ∷ id_at names part ∷ lanes ∷ []))
type_spelled names name (ty.Array part count) = Some (spelled op.TypeArray (name.id ∷ id_at names part ∷ unwrap_or name.length 0 ∷ []))
type_spelled names name (ty.Struct members packed) = Some (spelled op.TypeStruct (name.id ∷ map (id_at names) members))
type_spelled names name (ty.Pointer class pointee) = Some (spelled op.TypePointer (name.id ∷ class_number class ∷ id_at names pointee ∷ []))
type_spelled names name (ty.Function result params) = Some (spelled op.TypeFunction (name.id ∷ id_at names result ∷ map (id_at names) params))
type_spelled names name ty.Other = None
