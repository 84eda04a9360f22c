-- What follows of the definitions.
use Rattle.std.specs.Prelude.{◌≡◌, ℕ, Bool, List, Option, Some, All, IfSome, unwrap_or, ⊤}
use Rattle.kern_lanes.specs.declared.width.Width.TheVariants.{W1}
use Rattle.kern_types.specs.declared.ty.Ty.{Ty}
use Rattle.kern_types.specs.declared.ty.Ty.TheVariants as ty
use Rattle.kern_types.specs.declared.ty.TyId.{TyId}
use Rattle.spv_codec.specs.declared.module.RawInst.{RawInst}
use Rattle.spv_layout.specs.Forms.{opcode_of}
use Rattle.spv_module.specs.declared.types.TypeName.{TypeName}
use Rattle.spv_module.specs.Spelled.{id_at, type_spelled}
use Rattle.spv_types.specs.Readings.{type_by}

module _ (names : List TypeName) (places : ℕ → Option TyId) (numbers : ℕ → Option ℕ) (packed : ℕ → Bool) where
  -- a type of the table is found by its id
  abbrev pub IsFound : TyId → Type 0
  IsFound place = places (id_at names place) ≡ Some place

  -- what a module tells of a type of this name is so: its parts are found, the length of an array is the number of its constant, and a
  -- struct is packed or not as it says. An integer of one bit is none, since SPIR-V has booleans.
  abbrev pub IsTold : TypeName → Ty → Type 0
  IsTold name (ty.Int W1) = ⊥
  IsTold name (ty.Vector part lanes) = IsFound part
  IsTold name (ty.Array part count) = IsFound part × (numbers (unwrap_or name.length 0) ≡ Some count)
  IsTold name (ty.Struct members is_packed) = All IsFound members × (packed name.id ≡ is_packed)
  IsTold name (ty.Pointer class pointee) = IsFound pointee
  IsTold name (ty.Function given params) = IsFound given × All IsFound params
  IsTold name type = ⊤

  -- an instruction is read as this type
  abbrev pub IsReadAs : Ty → RawInst → Type 0
  IsReadAs type inst = type_by places numbers packed (opcode_of inst.op) inst.operands ≡ Some type

-- what a type is spelled as is read as that type
abbrev pub TypesAreReadBack : Type 0
TypesAreReadBack =
    (names : List TypeName) (places : ℕ → Option TyId) (numbers : ℕ → Option ℕ) (packed : ℕ → Bool) (name : TypeName) (type : Ty)
    → IsTold names places numbers packed name type → IfSome (type_spelled names name type) (IsReadAs names places numbers packed type)
