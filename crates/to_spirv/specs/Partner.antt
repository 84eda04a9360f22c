-- The SPIR-V module of a kernel whose names are numbered (SPIR-V 1.2, 2.4 "Logical Layout of a Module"). Ids count from 1 in the order of
-- the instructions that define them: the types, the function, its parameters, its label, and the values of its instructions.
use Rattle.std.specs.Prelude.{ℕ, ◌+◌, List, [], ◌∷◌, ◌++◌, None, map, length}
use Rattle.std.specs.List.{range_with_len}
use Rattle.inst_walk.specs.declared.body.Body.{Body}
use Rattle.kern_types.specs.declared.class.PointerWidth.TheVariants.{P64}
use Rattle.ll_tree.specs.declared.name.Name.{Name}
use Rattle.spv_words.specs.declared.words.Order.TheVariants.{Little}
use Rattle.spv_layout.specs.declared.opcode.Opcode.{Opcode}
use Rattle.spv_layout.specs.declared.opcode.Opcode.TheVariants as op
use Rattle.spv_layout.specs.Forms.{number_of}
use Rattle.spv_module.specs.declared.inst.SpvInst.{SpvInst}
use Rattle.spv_module.specs.declared.module.Capability.{Capability}
use Rattle.spv_module.specs.declared.module.Entry.{Entry}
use Rattle.spv_module.specs.declared.module.Function.{Function}
use Rattle.spv_module.specs.declared.module.Param.{Param}
use Rattle.spv_module.specs.declared.module.SpvModule.{SpvModule}
use Rattle.spv_module.specs.declared.types.TypeName.{TypeName}
use Rattle.spv_module.specs.NamedTypes.{NamedTypes}
use Rattle.kernel_tree.specs.declared.kernel.Kernel.{Kernel}
use Rattle.kernel_tree.specs.declared.kernel.KernelInst.{KernelInst}
use Rattle.kernel_tree.specs.declared.kernel.KernelInst.TheVariants.{Add, Load, Store}
use Rattle.kernel_tree.specs.declared.kernel.KernelParam.{KernelParam}
use Rattle.kernel_tree.specs.declared.kernel.ValueType.{ValueType}
use Rattle.kernel_tree.specs.declared.kernel.ValueType.TheVariants.{Int as i32, Pointer as i32_pointer}
use Rattle.kernel_tree.specs.Numbered.{name_bytes, definition_count}
use Rattle.to_spirv.specs.declared.ids.Ids.{Ids}
use Rattle.to_spirv.specs.TypeTrees.{TypeTree, Void, Int, Pointer, place_of, entry_of}
use Rattle.to_spirv.specs.KernelTypes.{function_tree, types_of}

-- the capabilities Addresses and Kernel
abbrev pub capabilities : List Capability
capabilities = record { number = 4; place = 0 } ∷ record { number = 6; place = 0 } ∷ []

-- the words behind an access: the mask Aligned, and the alignment in bytes
abbrev pub aligned_words : List ℕ
aligned_words = 2 ∷ 4 ∷ []

abbrev pub type_name : ℕ → TypeName
type_name id = record { id = id; length = None; place = 0 }

-- the id of a type, where these are listed
abbrev pub type_id : List TypeTree → TypeTree → ℕ
type_id listed tree = place_of tree listed + 1

-- the ids of the types, where these are listed, and that of the function, which stands behind them
abbrev pub ids_over : List TypeTree → Kernel → Ids
ids_over listed kernel = record {
  void = type_id listed Void;
  int = type_id listed Int;
  pointer = type_id listed (Pointer Int);
  function_type = type_id listed (function_tree kernel.params);
  function = length listed + 1;
}

abbrev pub spv_inst : Opcode → ℕ → ℕ → List ℕ → List ℕ → SpvInst
spv_inst opcode type id ids words = record { op = number_of opcode; ty = type; result = id; operands = record { ids = ids; words = words }; place = 0 }

abbrev pub named_types : List TypeTree → NamedTypes
named_types listed = record {
  table = record { pointer = P64; types = map (entry_of listed) listed };
  names = map type_name (range_with_len 1 (length listed));
}

-- the id of a parameter, of the block or of the value of an instruction: the ids of names count on from that of the function
abbrev pub id_of : Ids → Name → ℕ
id_of ids name = ids.function + name.number

abbrev pub value_type_id : Ids → ValueType → ℕ
value_type_id ids i32 = ids.int
value_type_id ids i32_pointer = ids.pointer

abbrev pub inst_partner : Ids → KernelInst → SpvInst
inst_partner ids (Add sum left right) = spv_inst op.IAdd ids.int (id_of ids sum) (id_of ids left ∷ id_of ids right ∷ []) []
inst_partner ids (Load loaded pointer is_aligned) = spv_inst op.Load ids.int (id_of ids loaded) (id_of ids pointer ∷ []) aligned_words
inst_partner ids (Store value pointer is_aligned) = spv_inst op.Store 0 0 (id_of ids pointer ∷ id_of ids value ∷ []) aligned_words

abbrev pub end_of_block : SpvInst
end_of_block = spv_inst op.Return 0 0 [] []

abbrev pub param_partner : Ids → KernelParam → Param
param_partner ids param = record { id = id_of ids param.name; ty = value_type_id ids param.value_type; place = 0 }

abbrev pub entry_partner : Ids → Kernel → Entry
entry_partner ids kernel = record { function = ids.function; name = name_bytes kernel; interface = []; modes = []; place = 0 }

abbrev pub function_partner : Ids → Kernel → Function
function_partner ids kernel = record {
  id = ids.function;
  result = ids.void;
  ty = ids.function_type;
  params = map (param_partner ids) kernel.params;
  labels = 0 ∷ [];
  place = 0;
}

abbrev pub param_id : Ids → KernelParam → ℕ
param_id ids param = id_of ids param.name

abbrev pub body_partner : Ids → Kernel → Body SpvInst ℕ
body_partner ids kernel = record {
  params = map (param_id ids) kernel.params;
  blocks = record { name = id_of ids kernel.block; insts = map (inst_partner ids) kernel.insts ++ end_of_block ∷ [] } ∷ [];
}

-- one more than the greatest id
abbrev pub bound_over : Ids → Kernel → ℕ
bound_over ids kernel = ids.function + definition_count kernel + 1

-- the module of a kernel with these types and these ids: of version 1.2, with the addressing model Physical64 and the memory model OpenCL
abbrev pub module_over : List TypeTree → Ids → Kernel → SpvModule
module_over listed ids kernel = record {
  order = Little;
  version = 0x10200;
  bound = bound_over ids kernel;
  capabilities = capabilities;
  extensions = [];
  imports = [];
  memory_model = record { addressing = 2; memory = 2; place = 0 };
  entries = entry_partner ids kernel ∷ [];
  strings = [];
  source = None;
  decorations = [];
  decoration_groups = [];
  groups = [];
  types = named_types listed;
  constants = [];
  variables = [];
  functions = function_partner ids kernel ∷ [];
  bodies = body_partner ids kernel ∷ [];
}

abbrev pub kernel_ids : Kernel → Ids
kernel_ids kernel = ids_over (types_of kernel) kernel

-- the bound of the module's ids
abbrev pub bound_of : Kernel → ℕ
bound_of kernel = bound_over (kernel_ids kernel) kernel

abbrev pub partner : Kernel → SpvModule
partner kernel = module_over (types_of kernel) (kernel_ids kernel) kernel
