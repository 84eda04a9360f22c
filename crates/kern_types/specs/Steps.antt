-- The parts of types, and where they stand
use Rattle.std.specs.Prelude.{ℕ, zero, suc, ◌+◌, ◌%◌, ◌^◌, Bool, List, [], ◌∷◌, Option, Some, None, option_map, slice_get, ℤ, pos, negsuc, ◌+ℤ◌, ◌*ℤ◌}
use Rattle.std.specs.Int.{next_multiple_of}
use Rattle.kern_lanes.specs.declared.width.Width.TheVariants.{W64}
use Rattle.kern_lanes.specs.Widths.{lane}
use Rattle.kern_types.specs.declared.ty.Ty.{Ty}
use Rattle.kern_types.specs.declared.ty.Ty.TheVariants as ty
use Rattle.kern_types.specs.declared.ty.TyId.{TyId}
use Rattle.kern_types.specs.declared.layout.Layout.{Layout}
use Rattle.kern_types.specs.declared.layout.Entry.{Entry}
use Rattle.kern_types.specs.Layouts.{◌>>=◌, layout_in, layouts_in, as_placed, entries_of}
use Rattle.kern_types.specs.Tables.{Table}

-- where the member of that number starts, of members that begin at a place; their end where there is no such member
unfoldable pub member_offset : ℕ → List Layout → ℕ → ℕ
member_offset at [] index = at
member_offset at (member ∷ rest) zero = next_multiple_of at member.align
member_offset at (member ∷ rest) (suc index) =
    member_offset (next_multiple_of at member.align + member.size) rest index

-- a part of a type: its offset in bytes, and its type
abbrev pub Part : Type 0
Part = ℤ × TyId

-- part `index` of equal ones in a row, also before the first one and behind the last
abbrev pub element_at : List Entry → TyId → ℤ → Option Part
element_at entries part index =
    option_map (λ layout. (index *ℤ pos layout.size, part)) (layout_in entries part)

-- the member of a struct, which has as many as are listed
abbrev pub member_at : List Entry → List TyId → Bool → ℤ → Option Part
member_at entries members packed (pos index) =
    slice_get members index >>= λ member. layouts_in entries members >>= λ parts. Some (pos (member_offset 0 (as_placed packed parts) index), member)
member_at entries members packed (negsuc index) = None

-- a part of a type, if the type has such parts
abbrev pub part_in : List Entry → Ty → ℤ → Option Part
part_in entries ty.Void index = None
part_in entries ty.Bool index = None
part_in entries (ty.Int width) index = None
part_in entries (ty.Vector part lanes) index = element_at entries part index
part_in entries (ty.Array part count) index = element_at entries part index
part_in entries (ty.Struct members packed) index = member_at entries members packed index
part_in entries (ty.Pointer class to) index = None
part_in entries (ty.Function given params) index = None
part_in entries ty.Other index = None

-- a part of a type of the table
abbrev pub part_at : Table → TyId → ℤ → Option Part
part_at table id index =
    slice_get table.types id.0 >>= λ ty. part_in (entries_of table.pointer table.types) ty index

-- a part as a step answers it: the offset is taken modulo 2 ^ 64
abbrev pub answered : Option Part → Option (ℕ × TyId)
answered part = option_map (λ found. (lane W64 found.0, found.1)) part

-- what a step to a part answers
abbrev pub step_at : Table → TyId → ℤ → Option (ℕ × TyId)
step_at table id index = answered (part_at table id index)

-- the sum of the offsets along a path, and the type that it ends at
unfoldable pub offset_along : Table → TyId → List ℤ → Option Part
offset_along table id [] = Some (pos 0, id)
offset_along table id (index ∷ path) =
    part_at table id index >>= λ part. offset_along table part.1 path >>= λ rest. Some (part.0 +ℤ rest.0, rest.1)

-- the steps along a path, their answers summed modulo 2 ^ 64
unfoldable pub steps_along : Table → TyId → List ℤ → Option (ℕ × TyId)
steps_along table id [] = Some (0, id)
steps_along table id (index ∷ path) =
    step_at table id index >>= λ step. steps_along table step.1 path >>= λ rest. Some ((step.0 + rest.0) % 2 ^ 64, rest.1)
