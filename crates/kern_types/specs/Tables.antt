-- A table of types as contracts see it, and what it says of sizes
use Rattle.std.specs.Prelude.{ℕ, ◌^◌, ◌<◌, List, Option, Some, None, option_map, length, nat_le, if◌then◌else◌}
use Rattle.kern_types.specs.declared.class.PointerWidth.{PointerWidth}
use Rattle.kern_types.specs.declared.ty.Ty.{Ty}
use Rattle.kern_types.specs.declared.ty.TyId.{TyId}
use Rattle.kern_types.specs.declared.layout.Layout.{Layout}
use Rattle.kern_types.specs.Layouts.{◌>>=◌, entries_of, layout_in}

-- how wide pointers are, and the types in the order of their places
pub record Table : Type 0 where
  pub pointer : PointerWidth
  pub types : List Ty

-- the id names a type of the table
abbrev pub Names : Table → TyId → Type 0
Names table id = id.0 < length table.types

-- the layout of a type of the table, if it has one
abbrev pub layout_at : Table → TyId → Option Layout
layout_at table id = layout_in (entries_of table.pointer table.types) id

-- a layout of at most 2 ^ 40 bytes
abbrev pub within_limit : Layout → Option Layout
within_limit layout = if nat_le layout.size (2 ^ 40) then Some layout else None

-- the layout of a type of at most 2 ^ 40 bytes
abbrev pub kept_at : Table → TyId → Option Layout
kept_at table id = layout_at table id >>= within_limit

-- the size of a type in bytes
abbrev pub size_at : Table → TyId → Option ℕ
size_at table id = option_map (λ layout. layout.size) (kept_at table id)

-- the alignment of a type in bytes
abbrev pub align_at : Table → TyId → Option ℕ
align_at table id = option_map (λ layout. layout.align) (kept_at table id)
