-- Kernels with other names, and modules of binaries with the same instructions (SPIR-V 1.2, 3.32).
use Rattle.std.specs.Prelude.{◌≡◌, ◌≢◌, ℕ, Bool, true, false, List, [], ◌∷◌, ◌++◌, All, Contains, map, flat_map, Option, Some, None}
use Rattle.inst_walk.specs.RenamedBody.{IsInjectiveOn}
use Rattle.inst_walk.specs.declared.body.Block.{Block}
use Rattle.inst_walk.specs.declared.body.Body.{Body}
use Rattle.kern_lanes.specs.declared.width.Width.TheVariants.{W32}
use Rattle.kern_types.specs.declared.class.Class.TheVariants.{Global}
use Rattle.kern_types.specs.declared.ty.Ty.{Ty}
use Rattle.kern_types.specs.declared.ty.Ty.TheVariants as ty
use Rattle.kern_types.specs.declared.ty.TyId.{TyId}
use Rattle.ll_tree.specs.declared.name.Name.{Name}
use Rattle.spv_layout.specs.declared.opcode.Opcode.TheVariants as opcode
use Rattle.spv_layout.specs.Forms.{number_of}
use Rattle.spv_module.specs.declared.inst.SpvInst.{SpvInst}
use Rattle.spv_module.specs.declared.module.Entry.{Entry}
use Rattle.spv_module.specs.declared.module.Function.{Function}
use Rattle.spv_module.specs.declared.module.Param.{Param}
use Rattle.spv_module.specs.declared.module.SpvModule.{SpvModule}
use Rattle.spv_module.specs.Modules.{inst_moved}
use Rattle.kernel_tree.specs.declared.kernel.Kernel.{Kernel}
use Rattle.kernel_tree.specs.declared.kernel.KernelInst.{KernelInst}
use Rattle.kernel_tree.specs.declared.kernel.KernelInst.TheVariants.{Add, Load, Store}
use Rattle.kernel_tree.specs.declared.kernel.KernelParam.{KernelParam}
use Rattle.kernel_tree.specs.declared.kernel.ValueType.{ValueType}
use Rattle.kernel_tree.specs.declared.kernel.ValueType.TheVariants.{Int, Pointer}
use Rattle.kernel_tree.specs.Numbered.{name_bytes}
use Rattle.spv_play.specs.Types.{type_named}
use Rattle.spv_play.specs.Acts.{constant_named}
use Rattle.kernel_runs.specs.Names.{value_numbers, result_typed}

module _ (f : ℕ → ℕ) where
  -- the name with its number replaced, at the first place
  abbrev pub name_plain : Name → Name
  name_plain name = record { number = f name.number; byte = 0 }

  -- the instruction with each name replaced, and its alignment written
  abbrev pub inst_plain : KernelInst → KernelInst
  inst_plain (Add sum left right) = Add (name_plain sum) (name_plain left) (name_plain right)
  inst_plain (Load loaded pointer is_aligned) = Load (name_plain loaded) (name_plain pointer) true
  inst_plain (Store value pointer is_aligned) = Store (name_plain value) (name_plain pointer) true

  abbrev pub param_plain : KernelParam → KernelParam
  param_plain param = record { value_type = param.value_type; name = name_plain param.name }

abbrev pub same_number : ℕ → ℕ
same_number number = number

-- a kernel is another one with each value's name replaced; places, target lines, what is said of alignments, and the name of the block
-- may differ
pub record IsRenamed (kernel : Kernel) (f : ℕ → ℕ) (renamed : Kernel) : Type 0 where
  pub injective : IsInjectiveOn f (value_numbers kernel)
  pub name : name_bytes renamed ≡ name_bytes kernel
  pub params : map (param_plain same_number) renamed.params ≡ map (param_plain f) kernel.params
  pub insts : map (inst_plain same_number) renamed.insts ≡ map (inst_plain f) kernel.insts

abbrev pub spv_inst : ℕ → ℕ → ℕ → List ℕ → List ℕ → SpvInst
spv_inst op type result ids words = record { op = op; ty = type; result = result; operands = record { ids = ids; words = words }; place = 0 }

-- the words behind an access, where its alignment is stated: the mask Aligned, and the alignment in bytes
abbrev pub access_words : Bool → List ℕ
access_words true = 2 ∷ 4 ∷ []
access_words false = []

-- the instruction of a binary for one of a kernel, by the id of each name, that of the type of numbers, and whether the alignment is stated
abbrev pub inst_image : (ℕ → ℕ) → ℕ → (KernelInst → Bool) → KernelInst → SpvInst
inst_image f int_id states (Add sum left right) =
    spv_inst (number_of opcode.IAdd) int_id (f sum.number) (f left.number ∷ f right.number ∷ []) []
inst_image f int_id states (Load loaded pointer is_aligned) =
    spv_inst (number_of opcode.Load) int_id (f loaded.number) (f pointer.number ∷ []) (access_words (states (Load loaded pointer is_aligned)))
inst_image f int_id states (Store value pointer is_aligned) =
    spv_inst (number_of opcode.Store) 0 0 (f pointer.number ∷ f value.number ∷ []) (access_words (states (Store value pointer is_aligned)))

abbrev pub end_image : SpvInst
end_image = spv_inst (number_of opcode.Return) 0 0 [] []

abbrev pub unplaced : SpvInst → SpvInst
unplaced inst = inst_moved (λ place. 0) inst

-- the type of a value, where the type of numbers stands at this place of the table
abbrev pub type_image : TyId → ValueType → Ty
type_image int Int = ty.Int W32
type_image int Pointer = ty.Pointer Global int

-- the id of a parameter, and its type
abbrev pub param_image : (ℕ → ℕ) → TyId → KernelParam → ℕ × Option Ty
param_image f int param = (f param.name.number, Some (type_image int param.value_type))

abbrev pub param_seen : SpvModule → Param → ℕ × Option Ty
param_seen m param = (param.id, type_named m param.ty)

-- the id is that of the type of numbers, as the result of an instruction asks for it
abbrev pub HasNumbers : SpvModule → ℕ → ℕ × ValueType → Type 0
HasNumbers m int_id result_of = type_named m int_id ≡ Some (ty.Int W32)

-- a module of a binary has the kernel's instructions, one for one, where each value has the id that a function gives to its name; places
-- aside, and also what doesn't matter to the meaning
pub record IsImage (kernel : Kernel) (f : ℕ → ℕ) (m : SpvModule) : Type 0 where
  pub injective : IsInjectiveOn f (value_numbers kernel)
  pub positive : (number : ℕ) → Contains (value_numbers kernel) number → f number ≢ 0
  pub no_constant : (number : ℕ) → Contains (value_numbers kernel) number → constant_named m (f number) ≡ None
  pub no_variables : m.variables ≡ []
  pub entry : Entry
  pub entries : m.entries ≡ entry ∷ []
  pub entry_name : entry.name ≡ name_bytes kernel
  pub function : Function
  pub functions : m.functions ≡ function ∷ []
  pub entry_function : entry.function ≡ function.id
  pub int : TyId
  pub params : map (param_seen m) function.params ≡ map (param_image f int) kernel.params
  pub int_id : ℕ
  pub numbers : All (HasNumbers m int_id) (flat_map result_typed kernel.insts)
  pub body : Body SpvInst ℕ
  pub bodies : m.bodies ≡ body ∷ []
  pub block : Block SpvInst ℕ
  pub blocks : body.blocks ≡ block ∷ []
  pub states_alignment : KernelInst → Bool
  pub insts : map unplaced block.insts ≡ map (inst_image f int_id states_alignment) kernel.insts ++ end_image ∷ []
