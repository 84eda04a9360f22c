-- Laws of sizes and alignments
use Rattle.std.specs.Prelude.{◌≡◌, ℕ, ◌%◌, ◌^◌, List, ◌++◌, Some, slice_get, ℤ}
use Rattle.kern_types.specs.declared.class.PointerWidth.{PointerWidth}
use Rattle.kern_types.specs.declared.ty.Ty.{Ty}
use Rattle.kern_types.specs.declared.ty.TyId.{TyId}
use Rattle.kern_types.specs.declared.layout.Layout.{Layout}
use Rattle.kern_types.specs.Layouts.{layout_of, entries_of}
use Rattle.kern_types.specs.Tables.{Table, layout_at}
use Rattle.kern_types.specs.Steps.{answered, offset_along, steps_along}

-- the alignment is a power of two, and the size a multiple of it
pub record IsWellAligned (layout : Layout) : Type 0 where
  pub exponent : ℕ
  pub power : layout.align ≡ 2 ^ exponent
  pub multiple : layout.size % layout.align ≡ 0

-- every layout of a table is well aligned
abbrev pub LayoutsAreAligned : Type 0
LayoutsAreAligned = (table : Table) (id : TyId) (layout : Layout) → layout_at table id ≡ Some layout → IsWellAligned layout

-- a type has the layout that its parts in the table give it
abbrev pub LayoutsComeFromParts : Type 0
LayoutsComeFromParts =
    (table : Table) (id : TyId) (ty : Ty) (layout : Layout) → slice_get table.types id.0 ≡ Some ty → layout_at table id ≡ Some layout → layout_of table.pointer (entries_of table.pointer table.types) ty ≡ Some layout

-- types that are added change no layout
abbrev pub LayoutsStay : Type 0
LayoutsStay =
    (pointer : PointerWidth) (types more : List Ty) (id : TyId) (layout : Layout) → layout_at (record { pointer = pointer; types = types }) id ≡ Some layout → layout_at (record { pointer = pointer; types = types ++ more }) id ≡ Some layout

-- the steps along a path come to the sum of its offsets
abbrev pub StepsAddUp : Type 0
StepsAddUp = (table : Table) (id : TyId) (path : List ℤ) → steps_along table id path ≡ answered (offset_along table id path)
