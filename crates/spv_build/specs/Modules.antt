-- The module that the instructions of a binary say (SPIR-V 1.2, 2.4 "Logical Layout of a Module").
use Rattle.std.specs.Prelude.{◌==◌, if◌then◌else◌, List, [], ◌∷◌, slice_get, unwrap_or}
use Rattle.kern_types.specs.declared.class.PointerWidth.{PointerWidth}
use Rattle.kern_types.specs.declared.class.PointerWidth.TheVariants.{P32, P64}
use Rattle.spv_codec.specs.declared.module.RawInst.{RawInst}
use Rattle.spv_codec.specs.declared.module.RawModule.{RawModule}
use Rattle.spv_module.specs.declared.module.MemoryModel.{MemoryModel}
use Rattle.spv_module.specs.declared.module.SpvModule.{SpvModule}
use Rattle.spv_names.specs.Functions.{function_section}
use Rattle.spv_names.specs.Uses.{has_wide}
use Rattle.spv_sections.specs.Standing.{begins_functions}
use Rattle.spv_types.specs.Tables.{types_of}
use Rattle.spv_build.specs.Entries.{entries_of}
use Rattle.spv_build.specs.Functions.{read_functions}
use Rattle.spv_build.specs.Items.{items_of, capability_of, extension_of, import_of, memory_model_of, string_of, source_of, decoration_of, decoration_group_of, group_of, constant_of, variable_of}
use Rattle.spv_build.specs.Kept.{kept_of}

-- the instructions before the function section
abbrev pub before_functions : List RawInst → List RawInst
before_functions [] = []
before_functions (inst ∷ insts) = if begins_functions inst then [] else inst ∷ before_functions insts

abbrev pub no_memory_model : MemoryModel
no_memory_model = record { addressing = 0; memory = 0; place = 0 }

-- the first memory model: a module without one is refused
abbrev pub model_of : List RawInst → MemoryModel
model_of insts = unwrap_or (slice_get (items_of memory_model_of insts) 0) no_memory_model

-- the addressing model Physical32 has the number 1
abbrev pub pointer_width : MemoryModel → PointerWidth
pointer_width model = if model.addressing == 1 then P32 else P64

-- the module of kept instructions, of a binary with all of these
abbrev pub module_by : RawModule → List RawInst → SpvModule
module_by raw insts = record {
  order = raw.order;
  version = raw.version;
  bound = raw.bound;
  capabilities = items_of capability_of insts;
  extensions = items_of extension_of insts;
  imports = items_of import_of insts;
  memory_model = model_of insts;
  entries = entries_of insts;
  strings = items_of string_of insts;
  source = slice_get (items_of source_of insts) 0;
  decorations = items_of decoration_of insts;
  decoration_groups = items_of decoration_group_of insts;
  groups = items_of group_of insts;
  types = types_of (pointer_width (model_of insts)) insts;
  constants = items_of constant_of insts;
  variables = items_of variable_of (before_functions insts);
  functions = (read_functions (has_wide raw.insts) (function_section insts)).functions;
  bodies = (read_functions (has_wide raw.insts) (function_section insts)).bodies;
}

-- the module that a binary says: dropped instructions leave nothing behind
unfoldable pub module_of : RawModule → SpvModule
module_of raw = module_by raw (kept_of raw.insts)
