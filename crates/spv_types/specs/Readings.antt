-- What an instruction declares as a type (SPIR-V 1.2, 3.32.6 "Type-Declaration Instructions"), where it is known which ids are types that
-- stand before it, which are numbers, and which are packed. What a table can't hold is `Other`.
use Rattle.std.specs.Prelude.{ℕ, ◌==◌, Bool, if◌then◌else◌, List, [], ◌∷◌, slice_get, Option, Some, None, unwrap_or, option_map}
use Rattle.kern_lanes.specs.declared.width.Width.TheVariants.{W8, W16, W32, W64}
use Rattle.kern_types.specs.declared.class.Class.{Class}
use Rattle.kern_types.specs.declared.class.Class.TheVariants as class
use Rattle.kern_types.specs.declared.ty.Ty.{Ty}
use Rattle.kern_types.specs.declared.ty.Ty.TheVariants as ty
use Rattle.kern_types.specs.declared.ty.TyId.{TyId}
use Rattle.spv_codec.specs.declared.module.RawInst.{RawInst}
use Rattle.spv_layout.specs.declared.opcode.Opcode.{Opcode}
use Rattle.spv_layout.specs.declared.opcode.Opcode.TheVariants as op
use Rattle.spv_layout.specs.Forms.{opcode_of}
use Rattle.spv_module.specs.declared.types.TypeName.{TypeName}

-- the storage class of a number (SPIR-V 1.2, 3.7)
abbrev pub class_of : ℕ → Option Class
class_of number =
    if number == 0 then Some class.Constant
    else (if number == 1 then Some class.Input
    else (if number == 4 then Some class.Local
    else (if number == 5 then Some class.Global
    else (if number == 7 then Some class.Private
    else (if number == 8 then Some class.Generic else None)))))

-- an integer type has no sign, and one of four widths
abbrev pub int_of : ℕ → Ty
int_of width =
    if width == 8 then ty.Int W8
    else (if width == 16 then ty.Int W16
    else (if width == 32 then ty.Int W32
    else (if width == 64 then ty.Int W64 else ty.Other)))

abbrev pub int_by : List ℕ → Ty
int_by (id ∷ width ∷ sign ∷ []) = if sign == 0 then int_of width else ty.Other
int_by operands = ty.Other

-- one more place before others, where each is there
abbrev pub put_place : Option TyId → Option (List TyId) → Option (List TyId)
put_place None others = None
put_place (Some place) others = option_map (λ rest. place ∷ rest) others

abbrev pub vector_of : Option TyId → ℕ → Ty
vector_of None lanes = ty.Other
vector_of (Some part) lanes = ty.Vector part lanes

abbrev pub array_of : Option TyId → Option ℕ → Ty
array_of (Some part) (Some count) = ty.Array part count
array_of part count = ty.Other

abbrev pub struct_of : Bool → Option (List TyId) → Ty
struct_of packed None = ty.Other
struct_of packed (Some members) = ty.Struct members packed

abbrev pub pointer_of : Option Class → Option TyId → Ty
pointer_of (Some class) (Some pointee) = ty.Pointer class pointee
pointer_of class pointee = ty.Other

abbrev pub function_of : Option TyId → Option (List TyId) → Ty
function_of (Some given) (Some params) = ty.Function given params
function_of given params = ty.Other

module _ (places : ℕ → Option TyId) where
  -- the places of all of some ids
  abbrev pub places_of : List ℕ → Option (List TyId)
  places_of [] = Some []
  places_of (id ∷ ids) = put_place (places id) (places_of ids)

  abbrev pub vector_by : List ℕ → Ty
  vector_by (id ∷ part ∷ lanes ∷ []) = vector_of (places part) lanes
  vector_by operands = ty.Other

  abbrev pub array_by : (ℕ → Option ℕ) → List ℕ → Ty
  array_by numbers (id ∷ part ∷ length ∷ []) = array_of (places part) (numbers length)
  array_by numbers operands = ty.Other

  abbrev pub struct_by : (ℕ → Bool) → List ℕ → Ty
  struct_by packed (id ∷ members) = struct_of (packed id) (places_of members)
  struct_by packed [] = ty.Other

  abbrev pub pointer_by : List ℕ → Ty
  pointer_by (id ∷ class ∷ pointee ∷ []) = pointer_of (class_of class) (places pointee)
  pointer_by operands = ty.Other

  abbrev pub function_by : List ℕ → Ty
  function_by (id ∷ given ∷ params) = function_of (places given) (places_of params)
  function_by operands = ty.Other

  -- the type of an instruction of this opcode, none where it declares none
  abbrev pub type_by : (ℕ → Option ℕ) → (ℕ → Bool) → Option Opcode → List ℕ → Option Ty
  type_by numbers packed (Some op.TypeVoid) operands = Some ty.Void
  type_by numbers packed (Some op.TypeBool) operands = Some ty.Bool
  type_by numbers packed (Some op.TypeInt) operands = Some (int_by operands)
  type_by numbers packed (Some op.TypeVector) operands = Some (vector_by operands)
  type_by numbers packed (Some op.TypeArray) operands = Some (array_by numbers operands)
  type_by numbers packed (Some op.TypeStruct) operands = Some (struct_by packed operands)
  type_by numbers packed (Some op.TypePointer) operands = Some (pointer_by operands)
  type_by numbers packed (Some op.TypeFunction) operands = Some (function_by operands)
  type_by numbers packed opcode operands = None

-- the constant that is the length of an array
abbrev pub length_by : Option Opcode → List ℕ → Option ℕ
length_by (Some op.TypeArray) operands = slice_get operands 2
length_by opcode operands = None

-- what names the type of an instruction
abbrev pub name_of : RawInst → TypeName
name_of inst = record {
  id = unwrap_or (slice_get inst.operands 0) 0;
  length = length_by (opcode_of inst.op) inst.operands;
  place = inst.place;
}
