-- The same module, places and byte order aside (SPIR-V 1.2, 2.4 "Logical Layout of a Module").
use Rattle.std.specs.Prelude.{◌≡◌, ℕ, map, option_map}
use Rattle.inst_walk.specs.declared.body.Block.{Block}
use Rattle.inst_walk.specs.declared.body.Body.{Body}
use Rattle.spv_words.specs.declared.words.Order.TheVariants.{Little}
use Rattle.spv_module.specs.declared.inst.SpvInst.{SpvInst}
use Rattle.spv_module.specs.declared.module.Capability.{Capability}
use Rattle.spv_module.specs.declared.module.Constant.{Constant}
use Rattle.spv_module.specs.declared.module.DebugString.{DebugString}
use Rattle.spv_module.specs.declared.module.Decoration.{Decoration}
use Rattle.spv_module.specs.declared.module.DecorationGroup.{DecorationGroup}
use Rattle.spv_module.specs.declared.module.Entry.{Entry}
use Rattle.spv_module.specs.declared.module.Extension.{Extension}
use Rattle.spv_module.specs.declared.module.Function.{Function}
use Rattle.spv_module.specs.declared.module.Group.{Group}
use Rattle.spv_module.specs.declared.module.Import.{Import}
use Rattle.spv_module.specs.declared.module.MemoryModel.{MemoryModel}
use Rattle.spv_module.specs.declared.module.Mode.{Mode}
use Rattle.spv_module.specs.declared.module.Param.{Param}
use Rattle.spv_module.specs.declared.module.SourceVersion.{SourceVersion}
use Rattle.spv_module.specs.declared.module.SpvModule.{SpvModule}
use Rattle.spv_module.specs.declared.types.TypeName.{TypeName}
use Rattle.spv_module.specs.NamedTypes.{NamedTypes}
use Rattle.spv_module.specs.declared.module.Variable.{Variable}

module _ (place : ℕ → ℕ) where
  abbrev pub capability_moved : Capability → Capability
  capability_moved capability = record capability { place = place capability.place }

  abbrev pub extension_moved : Extension → Extension
  extension_moved extension = record extension { place = place extension.place }

  abbrev pub import_moved : Import → Import
  import_moved set = record set { place = place set.place }

  abbrev pub memory_model_moved : MemoryModel → MemoryModel
  memory_model_moved model = record model { place = place model.place }

  abbrev pub mode_moved : Mode → Mode
  mode_moved mode = record mode { place = place mode.place }

  abbrev pub entry_moved : Entry → Entry
  entry_moved entry = record entry { modes = map mode_moved entry.modes; place = place entry.place }

  abbrev pub string_moved : DebugString → DebugString
  string_moved string = record string { place = place string.place }

  abbrev pub source_moved : SourceVersion → SourceVersion
  source_moved source = record source { place = place source.place }

  abbrev pub decoration_moved : Decoration → Decoration
  decoration_moved decoration = record decoration { place = place decoration.place }

  abbrev pub decoration_group_moved : DecorationGroup → DecorationGroup
  decoration_group_moved group = record group { place = place group.place }

  abbrev pub group_moved : Group → Group
  group_moved group = record group { place = place group.place }

  abbrev pub type_name_moved : TypeName → TypeName
  type_name_moved name = record name { place = place name.place }

  abbrev pub types_moved : NamedTypes → NamedTypes
  types_moved types = record types { names = map type_name_moved types.names }

  abbrev pub constant_moved : Constant → Constant
  constant_moved constant = record constant { place = place constant.place }

  abbrev pub variable_moved : Variable → Variable
  variable_moved variable = record variable { place = place variable.place }

  abbrev pub param_moved : Param → Param
  param_moved param = record param { place = place param.place }

  abbrev pub function_moved : Function → Function
  function_moved function = record function {
    params = map param_moved function.params;
    labels = map place function.labels;
    place = place function.place;
  }

  abbrev pub inst_moved : SpvInst → SpvInst
  inst_moved inst = record inst { place = place inst.place }

  abbrev pub block_moved : Block SpvInst ℕ → Block SpvInst ℕ
  block_moved block = record { name = block.name; insts = map inst_moved block.insts }

  abbrev pub body_moved : Body SpvInst ℕ → Body SpvInst ℕ
  body_moved body = record { params = body.params; blocks = map block_moved body.blocks }

  -- the module with each of its places changed
  abbrev pub module_moved : SpvModule → SpvModule
  module_moved m = record m {
    capabilities = map capability_moved m.capabilities;
    extensions = map extension_moved m.extensions;
    imports = map import_moved m.imports;
    memory_model = memory_model_moved m.memory_model;
    entries = map entry_moved m.entries;
    strings = map string_moved m.strings;
    source = option_map source_moved m.source;
    decorations = map decoration_moved m.decorations;
    decoration_groups = map decoration_group_moved m.decoration_groups;
    groups = map group_moved m.groups;
    types = types_moved m.types;
    constants = map constant_moved m.constants;
    variables = map variable_moved m.variables;
    functions = map function_moved m.functions;
    bodies = map body_moved m.bodies;
  }

-- the module with each of its places 0, in little order
unfoldable pub without_places : SpvModule → SpvModule
without_places m = record (module_moved (λ place. 0) m) { order = Little }

-- the same module, places and byte order aside
abbrev pub IsSame : SpvModule → SpvModule → Type 0
IsSame m n = without_places m ≡ without_places n
