-- What a module is whose instructions, as they are written, say all of it (SPIR-V 1.2, 2.4 "Logical Layout of a Module").
use Rattle.std.specs.Prelude.{◌≡◌, ◌≢◌, ◌⊎◌, ℕ, ◌-◌, Bool, false, true, ◌&&◌, length, slice_get, take, Some, None, IfSome, ⊤, Option, List, [], ◌∷◌, All, IsUtf8}
use Rattle.std.specs.List.{zip}
use Rattle.kern_types.specs.declared.class.Class.TheVariants as class
use Rattle.kern_types.specs.declared.ty.Ty.{Ty}
use Rattle.kern_types.specs.declared.ty.Ty.TheVariants as ty
use Rattle.spv_module.specs.declared.types.TypeName.{TypeName}
use Rattle.spv_types.specs.Laws.{IsTold}
use Rattle.spv_types.specs.Numbers.{constant_number}
use Rattle.spv_types.specs.Packed.{is_packed}
use Rattle.spv_types.specs.Tables.{place_of}
use Rattle.spv_codec.specs.declared.module.RawInst.{RawInst}
use Rattle.inst_walk.specs.declared.body.Block.{Block}
use Rattle.inst_walk.specs.declared.body.Body.{Body}
use Rattle.spv_module.specs.declared.inst.SpvInst.{SpvInst}
use Rattle.spv_module.specs.declared.module.Entry.{Entry}
use Rattle.spv_module.specs.declared.module.Decoration.{Decoration}
use Rattle.spv_module.specs.declared.module.Mode.{Mode}
use Rattle.spv_module.specs.declared.module.SourceVersion.{SourceVersion}
use Rattle.spv_module.specs.declared.module.SpvModule.{SpvModule}
use Rattle.spv_module.specs.declared.module.Variable.{Variable}
use Rattle.spv_module.specs.Woven.{inst_spelled}
use Rattle.spv_names.specs.declared.functions.Part.TheVariants as part
use Rattle.spv_names.specs.Functions.{part_of}
use Rattle.spv_names.specs.Uses.{has_wide, is_dropped, is_idle, is_idle_mode, is_version}
use Rattle.spv_codec.specs.Ids.{is_id}
use Rattle.spv_build.specs.Modules.{pointer_width}
use Rattle.spv_module.specs.Sections.{flattened}
use Rattle.spv_build.specs.Laws.{IsWhole}

-- a text of UTF-8 bytes, none of which is zero, so that its end is seen (SPIR-V 1.2, 2.2.1 "Literal String")
pub record IsText (text : List ℕ) : Type 0 where
  pub utf8 : IsUtf8 text
  pub no_zero : All (λ byte. byte ≢ 0) text

-- an instruction that stands inside a block or ends it
abbrev pub IsInBody : SpvInst → Type 0
IsInBody inst = (part_of (inst_spelled inst) ≡ part.Inner) ⊎ (part_of (inst_spelled inst) ≡ part.Terminator)

abbrev pub HasInsts : Block SpvInst ℕ → Type 0
HasInsts block = All IsInBody block.insts

abbrev pub HasBlocks : Body SpvInst ℕ → Type 0
HasBlocks body = All HasInsts body.blocks

-- the bodies of a module have such instructions alone
abbrev pub AreInBodies : SpvModule → Type 0
AreInBodies m = All HasBlocks m.bodies

-- the texts of a module are texts of the standard
pub record HasTexts (m : SpvModule) : Type 0 where
  pub extensions : All (λ extension. IsText extension.name) m.extensions
  pub imports : All (λ set. IsText set.name) m.imports
  pub entries : All (λ entry. IsText entry.name) m.entries
  pub strings : All (λ string. IsText string.text) m.strings

-- a variable of the module: its class isn't Function, that of private memory, whose variables stand in functions (SPIR-V 1.2, 3.7 "Storage Class")
abbrev pub IsOutside : Variable → Type 0
IsOutside variable = variable.class ≢ class.Private

-- what literal numbers of two words are in a written module
abbrev pub is_wide_in : SpvModule → RawInst → Bool
is_wide_in m inst = has_wide (flattened m).insts inst

-- the functions of a module whose instructions are read again from what they are spelled as
pub record HasFunctions (m : SpvModule) : Type 0 where
  pub as_many : length m.functions ≡ length m.bodies
  pub whole : All (IsWhole (is_wide_in m)) (zip m.functions m.bodies)

-- a decoration that imports a variable: LinkageAttributes, whose number is 41, of the kind Import, whose number is 1
abbrev pub is_import_by : Option ℕ → List ℕ → Bool
is_import_by None words = is_id 41 (slice_get words 0) && is_id 1 (slice_get words (length words - 1))
is_import_by (Some member) words = false

abbrev pub is_import : Decoration → Bool
is_import decoration = is_import_by decoration.member (decoration.kind ∷ decoration.words)

abbrev pub IsMode : Mode → Type 0
IsMode mode = is_idle_mode (Some mode.kind) ≡ false

abbrev pub HasModes : Entry → Type 0
HasModes entry = All IsMode entry.modes

abbrev pub IsDecoration : Decoration → Type 0
IsDecoration decoration = (is_idle (Some decoration.kind) ≡ false) × (is_import decoration ≡ false)

abbrev pub IsSource : SourceVersion → Type 0
IsSource source = is_version source.version ≡ true

-- an instruction of a body that is kept
abbrev pub IsKeptInst : SpvInst → Type 0
IsKeptInst inst = IsInBody inst × (is_dropped [] [] (inst_spelled inst) ≡ false)

abbrev pub HasKeptInsts : Block SpvInst ℕ → Type 0
HasKeptInsts block = All IsKeptInst block.insts

abbrev pub HasKeptBlocks : Body SpvInst ℕ → Type 0
HasKeptBlocks body = All HasKeptInsts body.blocks

-- a module without what is dropped where a module is built
pub record IsKept (m : SpvModule) : Type 0 where
  pub modes : All HasModes m.entries
  pub source : IfSome m.source IsSource
  pub decorations : All IsDecoration m.decorations
  pub bodies : All HasKeptBlocks m.bodies

-- entry points of other functions
abbrev pub OfOther : ℕ → Entry → Type 0
OfOther function entry = entry.function ≢ function

-- each entry point has a function of its own
abbrev pub AreApart : List Entry → Type 0
AreApart [] = ⊤
AreApart (entry ∷ entries) = All (OfOther entry.function) entries × AreApart entries

-- an array's name has the constant that is its length, another type's none. What a table can't hold has no instruction.
abbrev pub IsNamed : TypeName → Ty → Type 0
IsNamed name (ty.Array part count) = (id : ℕ) × (name.length ≡ Some id)
IsNamed name ty.Other = ⊥
IsNamed name type = name.length ≡ None

-- the types of a module, each of which is what its instruction says behind those before it: its parts stand before it, its length is the
-- number of a constant, and it is packed or not as the decorations say
pub record HasTypes (m : SpvModule) : Type 0 where
  pub as_many : length m.types.names ≡ length m.types.table.types
  pub named : (place : ℕ) (name : TypeName) (type : Ty) → slice_get m.types.names place ≡ Some name → slice_get m.types.table.types place ≡ Some type → IsNamed name type
  pub told : (place : ℕ) (name : TypeName) (type : Ty) → slice_get m.types.names place ≡ Some name → slice_get m.types.table.types place ≡ Some type
      → IsTold m.types.names (place_of (take place m.types.names)) (constant_number (flattened m).insts) (is_packed (flattened m).insts) name type

-- a module whose instructions, as they are written, say all of it: what is dropped isn't in it, its texts end where they seem to, each entry
-- point has a function of its own, and types and functions are what their instructions say
pub record IsWritable (m : SpvModule) : Type 0 where
  pub kept : IsKept m
  pub texts : HasTexts m
  pub entries : AreApart m.entries
  pub types : HasTypes m
  -- the width of pointers is that of the addressing model
  pub pointers : pointer_width m.memory_model ≡ m.types.table.pointer
  pub variables : All IsOutside m.variables
  pub functions : HasFunctions m
