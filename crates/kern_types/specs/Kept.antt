-- Layouts as a table keeps them: a size above the greatest one is kept as one byte more than it
use Rattle.std.specs.Prelude.{◌≡◌, ℕ, ◌+◌, ◌^◌, ◌<◌, ◌≤◌, min, ℤ, pos, negsuc, None, slice_get, Bool, List, map, All, Option, option_map, IfSome}
use Rattle.kern_types.specs.declared.class.PointerWidth.{PointerWidth}
use Rattle.kern_types.specs.declared.layout.Layout.{Layout}
use Rattle.kern_types.specs.declared.layout.Entry.{Entry}
use Rattle.kern_types.specs.Layouts.{◌>>=◌, entries_of, layouts_in, as_placed}
use Rattle.kern_types.specs.declared.ty.TyId.{TyId}
use Rattle.kern_types.specs.Steps.{member_offset}

-- a size as it is kept
abbrev pub capped_size : ℕ → ℕ
capped_size size = min size (2 ^ 40 + 1)

-- a layout as it is kept
abbrev pub capped : Layout → Layout
capped layout = record { size = capped_size layout.size; align = layout.align }

-- a type with its layout as it is kept
abbrev pub capped_entry : Entry → Entry
capped_entry entry = record { ty = entry.ty; layout = option_map capped entry.layout }

-- the bounds of what is kept
pub record IsKept (layout : Layout) : Type 0 where
  pub bounded : layout.size ≤ 2 ^ 40 + 1
  pub aligned : 0 < layout.align
  pub align_bounded : layout.align ≤ 128

-- the same of an entry
abbrev pub IsKeptEntry : Entry → Type 0
IsKeptEntry entry = IfSome entry.layout IsKept

-- the entries are those of their types
pub record IsTable (pointer : PointerWidth) (entries : List Entry) : Type 0 where
  pub kept : All IsKeptEntry entries
  pub exact : entries ≡ map capped_entry (entries_of pointer (map (λ entry. entry.ty) entries))

-- where a member is kept to start, of members that begin at a place
abbrev pub start_of : List Entry → Bool → ℕ → ℕ → List TyId → Option ℕ
start_of entries packed at index members =
    option_map (λ parts. capped_size (member_offset at (as_placed packed parts) index)) (layouts_in entries members)

-- a member and where it is kept to start
abbrev pub kept_member : List Entry → List TyId → Bool → ℤ → Option (ℕ × TyId)
kept_member entries members packed (pos index) =
    slice_get members index >>= λ member. option_map (λ start. (start, member)) (start_of entries packed 0 index members)
kept_member entries members packed (negsuc index) = None
