-- What follows of the definitions.
use Rattle.std.specs.Prelude.{◌≡◌, ℕ, Bool, true, Some, Ok, Err, List, [], ◌∷◌, ◌++◌, All, map, flat_map}
use Rattle.ports.specs.declared.faults.SpvFault.{SpvFault}
use Rattle.ports.specs.declared.faults.SpvError.TheVariants.{Fault}
use Rattle.spv_codec.specs.Ids.{kinds_of}
use Rattle.spv_codec.specs.Instructions.{Fits}
use Rattle.spv_codec.specs.declared.module.RawInst.{RawInst}
use Rattle.spv_codec.specs.declared.module.RawModule.{RawModule}
use Rattle.inst_walk.specs.declared.body.Block.{Block}
use Rattle.inst_walk.specs.declared.body.Body.{Body}
use Rattle.spv_module.specs.declared.inst.SpvInst.{SpvInst}
use Rattle.spv_module.specs.declared.module.Function.{Function}
use Rattle.spv_module.specs.declared.module.Capability.{Capability}
use Rattle.spv_module.specs.declared.module.Constant.{Constant}
use Rattle.spv_module.specs.declared.module.Decoration.{Decoration}
use Rattle.spv_module.specs.declared.module.DecorationGroup.{DecorationGroup}
use Rattle.spv_module.specs.declared.module.Group.{Group}
use Rattle.spv_module.specs.declared.module.MemoryModel.{MemoryModel}
use Rattle.spv_module.specs.declared.module.Mode.{Mode}
use Rattle.spv_module.specs.declared.module.Param.{Param}
use Rattle.spv_module.specs.declared.module.SourceVersion.{SourceVersion}
use Rattle.spv_module.specs.declared.module.SpvModule.{SpvModule}
use Rattle.spv_module.specs.declared.module.Variable.{Variable}
use Rattle.spv_module.specs.Sections.{body_spelled}
use Rattle.spv_module.specs.Spelled.{capability_spelled, memory_model_spelled, mode_spelled, source_spelled, decoration_spelled, decoration_group_spelled, group_spelled, constant_spelled, variable_spelled, param_spelled}
use Rattle.spv_module.specs.Woven.{inst_spelled}
use Rattle.spv_names.specs.declared.functions.Part.TheVariants as part
use Rattle.spv_names.specs.Functions.{part_of}
use Rattle.spv_names.specs.Uses.{has_wide}
use Rattle.spv_build.specs.declared.entries.GivenMode.{GivenMode}
use Rattle.spv_build.specs.Answers.{IsBuildAnswer}
use Rattle.spv_build.specs.Entries.{mode_of}
use Rattle.spv_build.specs.Functions.{param_id, read_functions}
use Rattle.spv_build.specs.Insts.{inst_of, are_operands, is_plain_form}
use Rattle.spv_build.specs.Items.{capability_of, memory_model_of, source_of, decoration_of, decoration_group_of, group_of, constant_of, variable_of, param_of}

-- a binary has one module
abbrev pub BuiltModulesAreOne : Type 0
BuiltModulesAreOne = (raw : RawModule) (m n : SpvModule) → IsBuildAnswer raw (Ok m) → IsBuildAnswer raw (Ok n) → m ≡ n

-- a binary that is refused has none
abbrev pub BuiltOrRefused : Type 0
BuiltOrRefused = (raw : RawModule) (m : SpvModule) (fault : SpvFault) → IsBuildAnswer raw (Ok m) → IsBuildAnswer raw (Err (Fault fault)) → ⊥

-- an instruction at a place
abbrev pub at : ℕ → RawInst → RawInst
at place inst = record inst { place = place }

abbrev pub given : ℕ → Mode → GivenMode
given function mode = record { function = function; mode = mode }

-- what an item is spelled as is read as that item
pub record ItemsAreReadBack : Type 0 where
  pub capabilities : (capability : Capability) → capability_of (at capability.place (capability_spelled capability)) ≡ Some capability
  pub memory_models : (model : MemoryModel) → memory_model_of (at model.place (memory_model_spelled model)) ≡ Some model
  pub modes : (function : ℕ) (mode : Mode) → mode_of (at mode.place (mode_spelled function mode)) ≡ Some (given function mode)
  pub sources : (source : SourceVersion) → source_of (at source.place (source_spelled source)) ≡ Some source
  pub decorations : (decoration : Decoration) → decoration_of (at decoration.place (decoration_spelled decoration)) ≡ Some decoration
  pub decoration_groups : (group : DecorationGroup) → decoration_group_of (at group.place (decoration_group_spelled group)) ≡ Some group
  pub groups : (group : Group) → group_of (at group.place (group_spelled group)) ≡ Some group
  pub constants : (constant : Constant) → constant_of (at constant.place (constant_spelled constant)) ≡ Some constant
  pub variables : (variable : Variable) → variable_of (at variable.place (variable_spelled variable)) ≡ Some variable
  pub params : (param : Param) → param_of (at param.place (param_spelled param)) ≡ Some param

-- an instruction of a function body whose words have each operand of its form is spelled again as it was read
abbrev pub InstructionsAreSpelledAgain : Type 0
InstructionsAreSpelledAgain =
    (wide : Bool) (raw : RawInst) → are_operands wide (kinds_of raw.op) raw.operands ≡ true → inst_spelled (inst_of wide raw) ≡ at 0 raw

abbrev pub IsUnplaced : Param → Type 0
IsUnplaced param = param.place ≡ 0

abbrev pub label_place : Block SpvInst ℕ → ℕ
label_place block = 0

module _ (is_wide : RawInst → Bool) where
  -- an instruction is read again from what it is spelled as. So it has no place.
  abbrev pub IsReadAgain : SpvInst → Type 0
  IsReadAgain inst = inst_of (is_wide (inst_spelled inst)) (inst_spelled inst) ≡ inst

  -- one inside a block, and one that ends a block
  abbrev pub IsInside : SpvInst → Type 0
  IsInside inst = (part_of (inst_spelled inst) ≡ part.Inner) × IsReadAgain inst

  abbrev pub IsLast : SpvInst → Type 0
  IsLast inst = (part_of (inst_spelled inst) ≡ part.Terminator) × IsReadAgain inst

  pub record IsBlock (block : Block SpvInst ℕ) : Type 0 where
    pub inner : List SpvInst
    pub last : SpvInst
    pub ends : block.insts ≡ inner ++ last ∷ []
    pub inside : All IsInside inner
    pub terminated : IsLast last

  -- a function without places, with its body
  pub record IsWhole (e : Function × Body SpvInst ℕ) : Type 0 where
    pub placed : e.0.place ≡ 0
    pub params : All IsUnplaced e.0.params
    pub ids : e.1.params ≡ map param_id e.0.params
    pub labels : e.0.labels ≡ map label_place e.1.blocks
    pub blocks : All IsBlock e.1.blocks

abbrev pub function_in : Function × Body SpvInst ℕ → Function
function_in e = e.0

abbrev pub body_in : Function × Body SpvInst ℕ → Body SpvInst ℕ
body_in e = e.1

-- what functions with their bodies are spelled as is read as these functions
abbrev pub FunctionsAreReadBack : Type 0
FunctionsAreReadBack =
    (is_wide : RawInst → Bool) (es : List (Function × Body SpvInst ℕ)) → All (IsWhole is_wide) es
    → (let s = read_functions is_wide (flat_map body_spelled es) in (s.functions ≡ map function_in es) × (s.bodies ≡ map body_in es))

-- an instruction of a decoded binary is spelled again as it was read, where its form has operands of one word each, but for the last
abbrev pub DecodedInstructionsAreSpelledAgain : Type 0
DecodedInstructionsAreSpelledAgain =
    (before : List RawInst) (raw : RawInst) → Fits before raw → is_plain_form (kinds_of raw.op) ≡ true
    → inst_spelled (inst_of (has_wide before raw) raw) ≡ at 0 raw
