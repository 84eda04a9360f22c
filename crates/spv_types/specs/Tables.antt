-- The types that the instructions of a module declare (SPIR-V 1.2, 3.32.6 "Type-Declaration Instructions"), each with its name.
use Rattle.std.specs.Prelude.{ℕ, ◌+◌, ◌==◌, Bool, if◌then◌else◌, List, [], ◌∷◌, ◌++◌, Option, Some, None}
use Rattle.kern_types.specs.declared.class.PointerWidth.{PointerWidth}
use Rattle.kern_types.specs.declared.ty.Ty.{Ty}
use Rattle.kern_types.specs.declared.ty.TyId.{TyId}
use Rattle.spv_codec.specs.declared.module.RawInst.{RawInst}
use Rattle.spv_layout.specs.Forms.{opcode_of}
use Rattle.spv_module.specs.declared.types.TypeName.{TypeName}
use Rattle.spv_module.specs.NamedTypes.{NamedTypes}
use Rattle.spv_types.specs.Numbers.{constant_number}
use Rattle.spv_types.specs.Packed.{is_packed}
use Rattle.spv_types.specs.Readings.{type_by, name_of}

-- the place of the first type with an id, where so many stand before these
abbrev pub place_from : ℕ → List TypeName → ℕ → Option TyId
place_from place [] id = None
place_from place (name ∷ names) id = if name.id == id then Some (record { 0 = place }) else place_from (place + 1) names id

abbrev pub place_of : List TypeName → ℕ → Option TyId
place_of names id = place_from 0 names id

-- the types with one more, where there is one
abbrev pub with_type : NamedTypes → TypeName → Option Ty → NamedTypes
with_type types name None = types
with_type types name (Some ty) = record {
  table = record types.table { types = types.table.types ++ ty ∷ [] };
  names = types.names ++ name ∷ [];
}

module _ (numbers : ℕ → Option ℕ) (packed : ℕ → Bool) where
  -- the type that an instruction behind these declares
  abbrev pub type_behind : NamedTypes → RawInst → Option Ty
  type_behind types inst = type_by (place_of types.names) numbers packed (opcode_of inst.op) inst.operands

  -- the types behind an instruction
  abbrev pub types_behind : NamedTypes → RawInst → NamedTypes
  types_behind types inst = with_type types (name_of inst) (type_behind types inst)

  abbrev pub types_from : NamedTypes → List RawInst → NamedTypes
  types_from types [] = types
  types_from types (inst ∷ insts) = types_from (types_behind types inst) insts

abbrev pub no_types : PointerWidth → NamedTypes
no_types pointer = record { table = record { pointer = pointer; types = [] }; names = [] }

-- the types of a module of these instructions, whose pointers have this width
unfoldable pub types_of : PointerWidth → List RawInst → NamedTypes
types_of pointer insts = types_from (constant_number insts) (is_packed insts) (no_types pointer) insts
