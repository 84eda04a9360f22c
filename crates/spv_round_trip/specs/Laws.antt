-- What follows of the definitions.
use Rattle.std.specs.Prelude.{◌≡◌, ℕ, Some, None, Ok, Option, List, [], ◌∷◌, All, map, flat_map}
use Rattle.std.specs.Option.{option_to_list}
use Rattle.spv_types.specs.Tables.{types_of}
use Rattle.spv_codec.specs.declared.module.RawInst.{RawInst}
use Rattle.spv_module.specs.declared.module.DebugString.{DebugString}
use Rattle.spv_module.specs.declared.module.Entry.{Entry}
use Rattle.spv_module.specs.declared.module.Extension.{Extension}
use Rattle.spv_module.specs.declared.module.Import.{Import}
use Rattle.spv_module.specs.declared.module.SpvModule.{SpvModule}
use Rattle.spv_names.specs.Functions.{function_section}
use Rattle.spv_build.specs.Kept.{kept_of}
use Rattle.spv_build.specs.Answers.{IsBuildAnswer}
use Rattle.spv_names.specs.NameRules.{names_fault}
use Rattle.spv_build.specs.declared.functions.FunctionsSoFar.{FunctionsSoFar}
use Rattle.spv_build.specs.Functions.{read_functions}
use Rattle.spv_build.specs.Modules.{before_functions, module_of}
use Rattle.spv_module.specs.Spelled.{extension_spelled, import_spelled, string_spelled, entry_spelled}
use Rattle.spv_module.specs.Modules.{capability_moved, extension_moved, import_moved, memory_model_moved, mode_moved, entry_moved, string_moved, source_moved, decoration_moved, decoration_group_moved, group_moved, constant_moved, types_moved, variable_moved, function_moved, body_moved, IsSame}
use Rattle.spv_module.specs.Sections.{flattened}
use Rattle.spv_build.specs.declared.entries.GivenMode.{GivenMode}
use Rattle.spv_build.specs.Entries.{entries_of, entry_of, mode_of}
use Rattle.spv_build.specs.Items.{items_of, capability_of, extension_of, import_of, memory_model_of, string_of, source_of, decoration_of, decoration_group_of, group_of, constant_of, variable_of}
use Rattle.spv_build.specs.Laws.{at, given}
use Rattle.kernel_tree.specs.declared.kernel.Kernel.{Kernel}
use Rattle.to_spirv.specs.Limits.{HasPlainName}
use Rattle.to_spirv.specs.Partner.{partner}
use Rattle.spv_round_trip.specs.Writable.{IsText, AreInBodies, HasTexts, IsOutside, is_wide_in, HasFunctions, IsKept, AreApart, HasTypes, IsWritable}

-- an entry point without its modes, which have instructions of their own
abbrev pub without_modes : Entry → Entry
without_modes entry = record entry { modes = [] }

-- what an item with a text is spelled as is read as that item
pub record TextsAreReadBack : Type 0 where
  pub extensions : (extension : Extension) → IsText extension.name → extension_of (at extension.place (extension_spelled extension)) ≡ Some extension
  pub imports : (set : Import) → IsText set.name → import_of (at set.place (import_spelled set)) ≡ Some set
  pub strings : (string : DebugString) → IsText string.text → string_of (at string.place (string_spelled string)) ≡ Some string
  pub entries : (entry : Entry) → IsText entry.name → entry_of (at entry.place (entry_spelled entry)) ≡ Some (without_modes entry)

-- no place
abbrev pub unplace : ℕ → ℕ
unplace place = 0

-- a mode of a function, in no place
abbrev pub mode_unplaced : GivenMode → GivenMode
mode_unplaced given = record given { mode = mode_moved unplace given.mode }

-- the instructions of a written module say these items, places aside
abbrev pub AreRead : {A : Type 0} → (A → A) → (RawInst → Option A) → SpvModule → List A → Type 0
AreRead moved f m items = map moved (items_of f (flattened m).insts) ≡ map moved items

-- the modes of an entry point, each with its function
abbrev pub given_modes : Entry → List GivenMode
given_modes entry = map (given entry.function) entry.modes

-- of the instructions of a written module those of each kind say the items of that kind, in their order: no instruction of another section is
-- read as one of them
pub record ListsAreReadBack (m : SpvModule) : Type 0 where
  pub capabilities : AreRead (capability_moved unplace) capability_of m m.capabilities
  pub extensions : AreRead (extension_moved unplace) extension_of m m.extensions
  pub imports : AreRead (import_moved unplace) import_of m m.imports
  pub memory_model : AreRead (memory_model_moved unplace) memory_model_of m (m.memory_model ∷ [])
  pub entries : AreRead (entry_moved unplace) entry_of m (map without_modes m.entries)
  pub modes : AreRead mode_unplaced mode_of m (flat_map given_modes m.entries)
  pub strings : AreRead (string_moved unplace) string_of m m.strings
  pub source : AreRead (source_moved unplace) source_of m (option_to_list m.source)
  pub decorations : AreRead (decoration_moved unplace) decoration_of m m.decorations
  pub decoration_groups : AreRead (decoration_group_moved unplace) decoration_group_of m m.decoration_groups
  pub groups : AreRead (group_moved unplace) group_of m m.groups
  pub constants : AreRead (constant_moved unplace) constant_of m m.constants

abbrev pub ListsAreBuiltAgain : Type 0
ListsAreBuiltAgain = (m : SpvModule) → AreInBodies m → HasTexts m → ListsAreReadBack m

-- what the instructions of a written module say of its functions
abbrev pub functions_said : SpvModule → FunctionsSoFar
functions_said m = read_functions (is_wide_in m) (function_section (flattened m).insts)

-- the function section of a written module says its functions and their bodies, places aside
abbrev pub FunctionsAreBuiltAgain : Type 0
FunctionsAreBuiltAgain =
    (m : SpvModule) → All IsOutside m.variables → HasFunctions m
    → (map (function_moved unplace) (functions_said m).functions ≡ map (function_moved unplace) m.functions)
    × (map (body_moved unplace) (functions_said m).bodies ≡ map (body_moved unplace) m.bodies)

-- the instructions before the functions say the variables of a written module
abbrev pub VariablesAreBuiltAgain : Type 0
VariablesAreBuiltAgain =
    (m : SpvModule) → All IsOutside m.variables
    → map (variable_moved unplace) (items_of variable_of (before_functions (flattened m).insts)) ≡ map (variable_moved unplace) m.variables

-- no instruction of such a module, as it is written, is dropped
abbrev pub NothingIsDropped : Type 0
NothingIsDropped = (m : SpvModule) → IsKept m → kept_of (flattened m).insts ≡ (flattened m).insts

-- the instructions of a written module say its entry points with their modes, places aside
abbrev pub EntriesAreBuiltAgain : Type 0
EntriesAreBuiltAgain =
    (m : SpvModule) → AreInBodies m → HasTexts m → AreApart m.entries
    → map (entry_moved unplace) (entries_of (flattened m).insts) ≡ map (entry_moved unplace) m.entries

-- the instructions of a written module say its types, places aside
abbrev pub TypesAreBuiltAgain : Type 0
TypesAreBuiltAgain =
    (m : SpvModule) → AreInBodies m → HasTypes m
    → types_moved unplace (types_of m.types.table.pointer (flattened m).insts) ≡ types_moved unplace m.types

-- the module that is written is built again, places aside
abbrev pub ModulesAreBuiltAgain : Type 0
ModulesAreBuiltAgain = (m : SpvModule) → IsWritable m → IsSame (module_of (flattened m)) m

-- the module that is written is built again, places aside, where it breaks no rule of sections, ids and functions
abbrev pub BuildingGivesBack : Type 0
BuildingGivesBack =
    (m : SpvModule) → IsWritable m → names_fault (flattened m) ≡ None
    → IsBuildAnswer (flattened m) (Ok (module_of (flattened m))) × IsSame (module_of (flattened m)) m

-- the module of a kernel is such a module
abbrev pub PartnerIsWritable : Type 0
PartnerIsWritable = (kernel : Kernel) → HasPlainName kernel → IsWritable (partner kernel)

-- so it is built again
abbrev pub PartnerIsBuiltAgain : Type 0
PartnerIsBuiltAgain = (kernel : Kernel) → HasPlainName kernel → IsSame (module_of (flattened (partner kernel))) (partner kernel)
