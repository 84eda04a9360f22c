-- The types of a kernel's module without a walk: which of them there are decides their order and their ids.
use Rattle.std.specs.Prelude.{ℕ, Bool, true, false, ◌-◌, List, [], ◌∷◌, ◌++◌, map, length}
use Rattle.std.specs.List.{list_any, range_with_len}
use Rattle.kern_lanes.specs.declared.width.Width.TheVariants.{W32}
use Rattle.kern_types.specs.declared.class.Class.TheVariants.{Global}
use Rattle.kern_types.specs.declared.class.PointerWidth.TheVariants.{P64}
use Rattle.kern_types.specs.declared.ty.Ty.{Ty}
use Rattle.kern_types.specs.declared.ty.Ty.TheVariants as ty
use Rattle.kern_types.specs.declared.ty.TyId.{TyId}
use Rattle.kernel_tree.specs.declared.kernel.KernelInst.{KernelInst}
use Rattle.kernel_tree.specs.declared.kernel.KernelInst.TheVariants.{Add, Load, Store}
use Rattle.kernel_tree.specs.declared.kernel.KernelParam.{KernelParam}
use Rattle.kernel_tree.specs.declared.kernel.ValueType.{ValueType}
use Rattle.kernel_tree.specs.declared.kernel.ValueType.TheVariants.{Int as i32, Pointer as i32_pointer}
use Rattle.spv_module.specs.NamedTypes.{NamedTypes}
use Rattle.to_spirv.specs.declared.ids.Ids.{Ids}
use Rattle.to_spirv.specs.declared.types.TypesNeeded.{TypesNeeded}
use Rattle.to_spirv.specs.declared.types.TypesNeeded.TheVariants.{Neither, ResultInt, ParamInt, ParamPointer}
use Rattle.to_spirv.specs.Partner.{type_name, value_type_id}
use Rattle.to_spirv.specs.TypeTrees.{TypeTree, TypeRow, Void, Int, Pointer, Function}

abbrev pub is_pointer : ValueType → Bool
is_pointer i32 = false
is_pointer i32_pointer = true

abbrev pub takes_pointer : KernelParam → Bool
takes_pointer param = is_pointer param.value_type

abbrev pub has_value : KernelInst → Bool
has_value (Add sum left right) = true
has_value (Load loaded pointer is_aligned) = true
has_value (Store value pointer is_aligned) = false

abbrev pub needed_without_pointer : List KernelParam → Bool → TypesNeeded
needed_without_pointer (param ∷ params) has_results = ParamInt
needed_without_pointer [] true = ResultInt
needed_without_pointer [] false = Neither

abbrev pub needed_where : Bool → List KernelParam → Bool → TypesNeeded
needed_where true params has_results = ParamPointer
needed_where false params has_results = needed_without_pointer params has_results

-- which types the module of a kernel with these parameters and these instructions has, besides `void` and the function's type
abbrev pub needed_by : List KernelParam → List KernelInst → TypesNeeded
needed_by params insts = needed_where (list_any takes_pointer params) params (list_any has_value insts)

-- the types, where the function's type has these parameters
abbrev pub listed_by : TypesNeeded → TypeRow → List TypeTree
listed_by Neither row = Void ∷ Function Void row ∷ []
listed_by ResultInt row = Void ∷ Function Void row ∷ Int ∷ []
listed_by ParamInt row = Void ∷ Int ∷ Function Void row ∷ []
listed_by ParamPointer row = Void ∷ Int ∷ Pointer Int ∷ Function Void row ∷ []

-- their ids, and that of the function
abbrev pub ids_by : TypesNeeded → Ids
ids_by Neither = record { void = 1; int = 3; pointer = 3; function_type = 2; function = 3 }
ids_by ResultInt = record { void = 1; int = 3; pointer = 4; function_type = 2; function = 4 }
ids_by ParamInt = record { void = 1; int = 2; pointer = 4; function_type = 3; function = 4 }
ids_by ParamPointer = record { void = 1; int = 2; pointer = 3; function_type = 4; function = 5 }

abbrev type_at : ℕ → TyId
type_at place = record { 0 = place }

-- these types, with one more
abbrev pub with_type : NamedTypes → Ty → ℕ → NamedTypes
with_type types more id = record {
  table = record { pointer = types.table.pointer; types = types.table.types ++ more ∷ [] };
  names = types.names ++ type_name id ∷ [];
}

-- types whose ids count from 1
abbrev pub numbered_types : List Ty → NamedTypes
numbered_types types = record {
  table = record { pointer = P64; types = types };
  names = map type_name (range_with_len 1 (length types));
}

-- the types before the function's, and behind it, as a table holds them
abbrev pub front_of : TypesNeeded → List Ty
front_of Neither = ty.Void ∷ []
front_of ResultInt = ty.Void ∷ []
front_of ParamInt = ty.Void ∷ ty.Int W32 ∷ []
front_of ParamPointer = ty.Void ∷ ty.Int W32 ∷ ty.Pointer Global (type_at 1) ∷ []

abbrev pub with_behind : TypesNeeded → NamedTypes → NamedTypes
with_behind Neither types = types
with_behind ResultInt types = with_type types (ty.Int W32) 3
with_behind ParamInt types = types
with_behind ParamPointer types = types

-- the place of a parameter's type
abbrev pub value_place : Ids → KernelParam → TyId
value_place ids param = type_at (value_type_id ids param.value_type - 1)

-- the function's type as the table holds it
abbrev pub function_entry : Ids → List KernelParam → Ty
function_entry ids params = ty.Function (type_at 0) (map (value_place ids) params)
