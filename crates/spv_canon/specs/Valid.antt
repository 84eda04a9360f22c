-- Modules that keep the rules which a module of the covered subset can break (SPIR-V 1.2, 2.16 "Validation Rules").
use Rattle.std.specs.Prelude.{◌≡◌, ◌⊎◌, ℕ, ◌<◌, List, [], ◌∷◌, ◌++◌, map, All, Contains}
use Rattle.std.specs.List.{AllZip}
use Rattle.inst_walk.specs.declared.body.Block.{Block}
use Rattle.inst_walk.specs.declared.body.Body.{Body}
use Rattle.kern_lanes.specs.declared.width.Width.{Width}
use Rattle.kern_types.specs.declared.class.Class.{Class}
use Rattle.kern_types.specs.declared.ty.Ty.TheVariants as ty
use Rattle.kern_types.specs.declared.ty.TyId.{TyId}
use Rattle.spv_layout.specs.declared.opcode.Opcode.TheVariants as op
use Rattle.spv_layout.specs.Forms.{number_of}
use Rattle.spv_module.specs.declared.inst.SpvInst.{SpvInst}
use Rattle.spv_module.specs.declared.module.Entry.{Entry}
use Rattle.spv_module.specs.declared.module.Function.{Function}
use Rattle.spv_module.specs.declared.module.Param.{Param}
use Rattle.spv_module.specs.declared.module.SpvModule.{SpvModule}
use Rattle.spv_module.specs.NamedTypes.{NamedTypes}
use Rattle.spv_module.specs.Spelled.{id_at}
use Rattle.to_spirv.specs.Pairing.{HasType}
use Rattle.spv_canon.specs.Canonical.{ids_in_functions, results}
use Rattle.spv_canon.specs.Sound.{HasSoundIds}
use Rattle.spv_canon.specs.Trees.{type_ids}

-- a value by its id, and the id of its type
pub record Typed : Type 0 where
  pub id : ℕ
  pub ty : ℕ

-- the value that an instruction has
abbrev pub value_at : ℕ → ℕ → Typed
value_at ty id = record { id = id; ty = ty }

abbrev pub values_of : SpvInst → List Typed
values_of inst = map (value_at inst.ty) (results inst)

abbrev pub param_value : Param → Typed
param_value param = value_at param.ty param.id

-- the word Aligned of a memory access, and the 4 bytes that an integer of 32 bits is aligned to
abbrev pub aligned_access : List ℕ
aligned_access = 2 ∷ 4 ∷ []

module _ (types : NamedTypes) where
  pub record IsInteger (id : ℕ) : Type 0 where
    pub width : Width
    pub held : HasType types id (ty.Int width)

  -- a type of pointers to values of another type
  pub record PointsTo (pointer pointee : ℕ) : Type 0 where
    pub class : Class
    pub to : TyId
    pub held : HasType types pointer (ty.Pointer class to)
    pub points : id_at types.names to ≡ pointee

  -- these values stand above
  module _ (above : List Typed) where
    abbrev pub IsValue : ℕ → ℕ → Type 0
    IsValue ty id = Contains above (value_at ty id)

    -- both operands of OpIAdd have the type of the result
    pub record Adds (inst : SpvInst) : Type 0 where
      pub opcode : inst.op ≡ number_of op.IAdd
      pub left : ℕ
      pub right : ℕ
      pub operands : inst.operands ≡ record { ids = left ∷ right ∷ []; words = [] }
      pub integer : IsInteger inst.ty
      pub left_is : IsValue inst.ty left
      pub right_is : IsValue inst.ty right

    -- OpLoad has the type that its pointer points to
    pub record Loads (inst : SpvInst) : Type 0 where
      pub opcode : inst.op ≡ number_of op.Load
      pub pointer : ℕ
      pub pointer_type : ℕ
      pub operands : inst.operands ≡ record { ids = pointer ∷ []; words = aligned_access }
      pub pointer_is : IsValue pointer_type pointer
      pub points : PointsTo pointer_type inst.ty

    -- what OpStore stores has the type that its pointer points to
    pub record Stores (inst : SpvInst) : Type 0 where
      pub opcode : inst.op ≡ number_of op.Store
      pub pointer : ℕ
      pub pointer_type : ℕ
      pub object : ℕ
      pub object_type : ℕ
      pub operands : inst.operands ≡ record { ids = pointer ∷ object ∷ []; words = aligned_access }
      pub pointer_is : IsValue pointer_type pointer
      pub object_is : IsValue object_type object
      pub points : PointsTo pointer_type object_type

    abbrev pub Fits : SpvInst → Type 0
    Fits inst = Adds inst ⊎ Loads inst ⊎ Stores inst

  -- OpReturn ends the block, and each instruction before it takes values that stand above, of the types that it asks
  abbrev pub AreFit : List Typed → List SpvInst → Type 0
  AreFit above [] = ⊥
  AreFit above (inst ∷ []) = inst.op ≡ number_of op.Return
  AreFit above (inst ∷ next ∷ insts) = Fits above inst × AreFit (above ++ values_of inst) (next ∷ insts)

  -- a function without result whose type is made of those of its parameters, with one block
  pub record IsValidFunction (function : Function) (body : Body SpvInst ℕ) : Type 0 where
    pub given : TyId
    pub params : List TyId
    pub signature : HasType types function.ty (ty.Function given params)
    pub gives : id_at types.names given ≡ function.result
    pub takes : map (id_at types.names) params ≡ map (λ param. param.ty) function.params
    pub void : HasType types function.result ty.Void
    pub block : Block SpvInst ℕ
    pub blocks : body.blocks ≡ block ∷ []
    pub insts : AreFit (map param_value function.params) block.insts

abbrev pub function_id : Function → ℕ
function_id function = function.id

-- an entry point is one of the functions
abbrev pub IsEntry : SpvModule → Entry → Type 0
IsEntry m entry = Contains (map function_id m.functions) entry.function

-- an id is not 0, and below the bound
abbrev pub IsBelow : ℕ → ℕ → Type 0
IsBelow bound id = (0 < id) × (id < bound)

pub record IsValid (m : SpvModule) : Type 0 where
  pub sound : HasSoundIds m
  pub bound : All (IsBelow m.bound) (type_ids m.types ++ ids_in_functions m)
  pub functions : AllZip (IsValidFunction m.types) m.functions m.bodies
  pub entries : All (IsEntry m) m.entries
