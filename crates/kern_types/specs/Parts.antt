-- Which types a type names as its parts
use Rattle.std.specs.Prelude.{ℕ, ◌<◌, All}
use Rattle.kern_types.specs.declared.ty.Ty.{Ty}
use Rattle.kern_types.specs.declared.ty.Ty.TheVariants as ty
use Rattle.kern_types.specs.declared.ty.TyId.{TyId}

-- the id is one of the first so many
abbrev pub IsAmongFirst : ℕ → TyId → Type 0
IsAmongFirst count id = id.0 < count

-- each part is one of the first so many types
abbrev pub HasPartsIn : ℕ → Ty → Type 0
HasPartsIn count ty.Void = Unit {0}
HasPartsIn count ty.Bool = Unit {0}
HasPartsIn count (ty.Int width) = Unit {0}
HasPartsIn count (ty.Vector part lanes) = IsAmongFirst count part
HasPartsIn count (ty.Array part length) = IsAmongFirst count part
HasPartsIn count (ty.Struct members packed) = All (IsAmongFirst count) members
HasPartsIn count (ty.Pointer class to) = IsAmongFirst count to
HasPartsIn count (ty.Function given params) = IsAmongFirst count given × All (IsAmongFirst count) params
HasPartsIn count ty.Other = Unit {0}
