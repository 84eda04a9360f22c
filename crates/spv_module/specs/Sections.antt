-- The instructions of a module, section by section (SPIR-V 1.2, 2.4 "Logical Layout of a Module"), each with its place.
use Rattle.std.specs.Prelude.{ℕ, ◌+◌, nat_lt, Bool, true, false, if◌then◌else◌, List, [], ◌∷◌, ◌++◌, map, flat_map, length}
use Rattle.std.specs.List.{zip}
use Rattle.std.specs.Option.{option_to_list}
use Rattle.inst_walk.specs.declared.body.Block.{Block}
use Rattle.inst_walk.specs.declared.body.Body.{Body}
use Rattle.kern_types.specs.declared.ty.Ty.{Ty}
use Rattle.spv_codec.specs.declared.module.RawInst.{RawInst}
use Rattle.spv_codec.specs.declared.module.RawModule.{RawModule}
use Rattle.spv_layout.specs.declared.opcode.Opcode.TheVariants as op
use Rattle.spv_module.specs.declared.declared.Declared.{Declared}
use Rattle.spv_module.specs.declared.inst.SpvInst.{SpvInst}
use Rattle.spv_module.specs.declared.module.Constant.{Constant}
use Rattle.spv_module.specs.declared.module.Function.{Function}
use Rattle.spv_module.specs.declared.module.SpvModule.{SpvModule}
use Rattle.spv_module.specs.declared.module.Variable.{Variable}
use Rattle.spv_module.specs.declared.types.TypeName.{TypeName}
use Rattle.spv_module.specs.NamedTypes.{NamedTypes}
use Rattle.spv_module.specs.Spelled.{spelled, capability_spelled, extension_spelled, import_spelled, memory_model_spelled, entry_spelled, modes_spelled, string_spelled, source_spelled, decoration_spelled, decoration_group_spelled, group_spelled, constant_spelled, variable_spelled, param_spelled, type_spelled}
use Rattle.spv_module.specs.Woven.{inst_spelled}

abbrev pub declared_as : ℕ → RawInst → Declared
declared_as id inst = record { id = id; inst = inst }

abbrev pub type_declared : List TypeName → TypeName × Ty → List Declared
type_declared names e = map (declared_as e.0.id) (option_to_list (type_spelled names e.0 e.1))

abbrev pub types_declared : NamedTypes → List Declared
types_declared types = flat_map (type_declared types.names) (zip types.names types.table.types)

abbrev pub constant_declared : Constant → Declared
constant_declared constant = declared_as constant.id (constant_spelled constant)

abbrev pub variable_declared : Variable → Declared
variable_declared variable = declared_as variable.id (variable_spelled variable)

-- one declaration, before others: behind those of a second list that have lower ids
abbrev pub put_before : Declared → (List Declared → List Declared) → List Declared → List Declared
put_before first rest [] = first ∷ rest []
put_before first rest (other ∷ others) =
    if nat_lt other.id first.id then other ∷ put_before first rest others else first ∷ rest (other ∷ others)

-- two lists as one, by rising ids where theirs rise
abbrev pub merged : List Declared → List Declared → List Declared
merged [] others = others
merged (first ∷ rest) others = put_before first (merged rest) others

-- whether the first one of the second list comes first
abbrev pub second_first : List Declared → List Declared → Bool
second_first [] others = true
second_first (first ∷ rest) [] = false
second_first (first ∷ rest) (other ∷ others) = nat_lt other.id first.id

abbrev pub inst_of : Declared → RawInst
inst_of declared = declared.inst

-- types, constants and variables stand in one section, each behind those that it names: in a module whose ids rise in the order of their
-- definitions, by rising ids
abbrev pub declarations : SpvModule → List Declared
declarations m =
    merged (merged (types_declared m.types) (map constant_declared m.constants)) (map variable_declared m.variables)

abbrev pub function_spelled : Function → RawInst
function_spelled function = spelled op.Function (function.result ∷ function.id ∷ 0 ∷ function.ty ∷ [])

abbrev pub block_spelled : Block SpvInst ℕ → List RawInst
block_spelled block = spelled op.Label (block.name ∷ []) ∷ map inst_spelled block.insts

abbrev pub body_spelled : Function × Body SpvInst ℕ → List RawInst
body_spelled e =
    function_spelled e.0 ∷ (map param_spelled e.0.params ++ (flat_map block_spelled e.1.blocks ++ (spelled op.FunctionEnd [] ∷ [])))

-- capabilities, extensions, imports, the memory model, entry points, and their modes
abbrev pub preamble : SpvModule → List RawInst
preamble m =
    map capability_spelled m.capabilities ++ (map extension_spelled m.extensions ++ (map import_spelled m.imports
    ++ (memory_model_spelled m.memory_model ∷ (map entry_spelled m.entries ++ flat_map modes_spelled m.entries))))

-- texts and the source
abbrev pub debug_section : SpvModule → List RawInst
debug_section m = map string_spelled m.strings ++ map source_spelled (option_to_list m.source)

-- decorations, and behind them the groups that collect them
abbrev pub annotations : SpvModule → List RawInst
annotations m =
    map decoration_spelled m.decorations ++ (map decoration_group_spelled m.decoration_groups ++ map group_spelled m.groups)

-- types, constants and variables
abbrev pub global_section : SpvModule → List RawInst
global_section m = map inst_of (declarations m)

abbrev pub function_section : SpvModule → List RawInst
function_section m = flat_map body_spelled (zip m.functions m.bodies)

-- the instructions of a module in the order of the sections
abbrev pub sections : SpvModule → List RawInst
sections m = preamble m ++ (debug_section m ++ (annotations m ++ (global_section m ++ function_section m)))

-- each instruction has as its place the number of words before it, where this is that of the first
abbrev pub placed : ℕ → List RawInst → List RawInst
placed place [] = []
placed place (inst ∷ insts) = record inst { place = place } ∷ placed (place + (length inst.operands + 1)) insts

-- the module as its words spell it, behind a header of five words. The generator is 0.
abbrev pub flattened : SpvModule → RawModule
flattened m = record { order = m.order; version = m.version; generator = 0; bound = m.bound; insts = placed 5 (sections m) }
