-- Sizes and alignments, in bytes
use Rattle.std.specs.Prelude.{ℕ, ◌+◌, ◌*◌, max, Bool, true, false, List, [], ◌∷◌, ◌++◌, map, fold, Option, Some, None, option_and_then, option_map, slice_get, ◌==◌, if◌then◌else◌}
use Rattle.std.specs.Int.{next_multiple_of}
use Rattle.kern_lanes.specs.declared.width.Width.{Width}
use Rattle.kern_lanes.specs.declared.width.Width.TheVariants.{W1, W8, W16, W32, W64}
use Rattle.kern_types.specs.declared.class.PointerWidth.{PointerWidth}
use Rattle.kern_types.specs.declared.ty.Ty.{Ty}
use Rattle.kern_types.specs.declared.ty.Ty.TheVariants as ty
use Rattle.kern_types.specs.declared.ty.TyId.{TyId}
use Rattle.kern_types.specs.declared.layout.Layout.{Layout}
use Rattle.kern_types.specs.declared.layout.Entry.{Entry}
use Rattle.kern_types.specs.Pointers.{pointer_bytes}

infixl 10 ◌>>=◌
abbrev pub ◌>>=◌ : {A B : Type 0} → Option A → (A → Option B) → Option B
o >>= f = option_and_then f o

-- so many bytes, aligned to their number
abbrev pub natural : ℕ → Layout
natural bytes = record { size = bytes; align = bytes }

-- the bytes of an integer in memory, where it has a place there
abbrev pub int_bytes : Width → Option ℕ
int_bytes W1 = None
int_bytes W8 = Some 1
int_bytes W16 = Some 2
int_bytes W32 = Some 4
int_bytes W64 = Some 8

-- the bytes of a type that is an integer
abbrev pub element_bytes : Ty → Option ℕ
element_bytes ty.Void = None
element_bytes ty.Bool = None
element_bytes (ty.Int width) = int_bytes width
element_bytes (ty.Vector part lanes) = None
element_bytes (ty.Array part count) = None
element_bytes (ty.Struct members packed) = None
element_bytes (ty.Pointer class to) = None
element_bytes (ty.Function given params) = None
element_bytes ty.Other = None

-- how many lanes a vector has room for: three take the room of four
abbrev pub lane_room : ℕ → Option ℕ
lane_room lanes =
    if lanes == 2 then Some 2
    else (if lanes == 3 then Some 4
    else (if lanes == 4 then Some 4
    else (if lanes == 8 then Some 8
    else (if lanes == 16 then Some 16 else None))))

-- a layout so many times, one behind the other
abbrev pub repeated : ℕ → Layout → Layout
repeated count part = record { size = count * part.size; align = part.align }

-- a layout that may stand at any place
abbrev pub unaligned : Layout → Layout
unaligned part = record { size = part.size; align = 1 }

-- the members as a struct places them: a packed one leaves no gaps
abbrev pub as_placed : Bool → List Layout → List Layout
as_placed false members = members
as_placed true members = map unaligned members

-- where members end that begin at a place: each starts at the next multiple of its alignment
unfoldable pub end_after : ℕ → List Layout → ℕ
end_after at [] = at
end_after at (member ∷ rest) = end_after (next_multiple_of at member.align + member.size) rest

-- the greatest alignment of members, 1 where there are none
unfoldable pub greatest_align : List Layout → ℕ
greatest_align [] = 1
greatest_align (member ∷ rest) = max member.align (greatest_align rest)

-- the layout of a struct whose members are placed so
abbrev pub struct_of : List Layout → Layout
struct_of placed = record { size = next_multiple_of (end_after 0 placed) (greatest_align placed); align = greatest_align placed }

-- the layout that a type of the table has, if any
abbrev pub layout_in : List Entry → TyId → Option Layout
layout_in entries id = slice_get entries id.0 >>= λ entry. entry.layout

-- the type that an id of the table names
abbrev pub type_in : List Entry → TyId → Option Ty
type_in entries id = slice_get entries id.0 >>= λ entry. Some entry.ty

-- the layouts of all these types, if each has one
unfoldable pub layouts_in : List Entry → List TyId → Option (List Layout)
layouts_in entries [] = Some []
layouts_in entries (id ∷ ids) =
    layout_in entries id >>= λ first. layouts_in entries ids >>= λ rest. Some (first ∷ rest)

-- the layout of a vector: its lanes in a row, aligned to their size
abbrev pub vector_of : List Entry → TyId → ℕ → Option Layout
vector_of entries part lanes =
    type_in entries part >>= λ element. element_bytes element >>= λ bytes. lane_room lanes >>= λ room. Some (natural (room * bytes))

-- the layout of an array, which has one part at least
abbrev pub array_of : List Entry → TyId → ℕ → Option Layout
array_of entries part count =
    if count == 0 then None else option_map (repeated count) (layout_in entries part)

-- the layout of a struct, whose members all have one
abbrev pub struct_in : List Entry → List TyId → Bool → Option Layout
struct_in entries members packed =
    option_map (λ parts. struct_of (as_placed packed parts)) (layouts_in entries members)

-- the layout of a pointer, whose target has one
abbrev pub pointer_to : PointerWidth → List Entry → TyId → Option Layout
pointer_to pointer entries to = option_map (λ target. natural (pointer_bytes pointer)) (layout_in entries to)

-- the layout of a type whose parts stand in these entries, if it has one
unfoldable pub layout_of : PointerWidth → List Entry → Ty → Option Layout
layout_of pointer entries ty.Void = None
layout_of pointer entries ty.Bool = None
layout_of pointer entries (ty.Int width) = option_map natural (int_bytes width)
layout_of pointer entries (ty.Vector part lanes) = vector_of entries part lanes
layout_of pointer entries (ty.Array part count) = array_of entries part count
layout_of pointer entries (ty.Struct members packed) = struct_in entries members packed
layout_of pointer entries (ty.Pointer class to) = pointer_to pointer entries to
layout_of pointer entries (ty.Function given params) = None
layout_of pointer entries ty.Other = None

-- the entries with one type more
abbrev pub with_type : PointerWidth → List Entry → Ty → List Entry
with_type pointer entries ty = entries ++ (record { ty = ty; layout = layout_of pointer entries ty } ∷ [])

-- the types of a table, each with its layout, whose parts stand before it
unfoldable pub entries_of : PointerWidth → List Ty → List Entry
entries_of pointer types = fold (with_type pointer) [] types
