-- Types as trees, and the order in which a module lists those that it needs: each behind the types that it refers to (SPIR-V 1.2, 2.4
-- "Logical Layout of a Module" and 3.32.6 "Type-Declaration Instructions").
use Rattle.std.specs.Prelude.{ℕ, ◌+◌, Bool, true, false, ◌&&◌, if◌then◌else◌, List, [], ◌∷◌, ◌++◌}
use Rattle.std.specs.List.{list_any}
use Rattle.kern_lanes.specs.declared.width.Width.TheVariants.{W32}
use Rattle.kern_types.specs.declared.class.Class.TheVariants.{Global}
use Rattle.kern_types.specs.declared.ty.Ty.{Ty}
use Rattle.kern_types.specs.declared.ty.Ty.TheVariants as ty
use Rattle.kern_types.specs.declared.ty.TyId.{TyId}

mutual
  pub data TypeTree : Type 0 where
    Void : TypeTree
    -- an integer of 32 bits
    Int : TypeTree
    -- a pointer of the storage class CrossWorkgroup
    Pointer : TypeTree → TypeTree
    -- the type of the result, and those of the parameters
    Function : TypeTree → TypeRow → TypeTree

  pub data TypeRow : Type 0 where
    End : TypeRow
    Then : TypeTree → TypeRow → TypeRow

abbrev mutual
  pub is_same : TypeTree → TypeTree → Bool
  is_same Void Void = true
  is_same Int Int = true
  is_same (Pointer tree) (Pointer other) = is_same tree other
  is_same (Function given row) (Function other others) = is_same given other && are_same row others
  is_same tree other = false

  pub are_same : TypeRow → TypeRow → Bool
  are_same End End = true
  are_same (Then tree row) (Then other others) = is_same tree other && are_same row others
  are_same row others = false

-- a type stands behind those that are listed, if it isn't one of them
abbrev pub listing : TypeTree → List TypeTree → List TypeTree
listing tree listed = if list_any (is_same tree) listed then listed else listed ++ tree ∷ []

-- to need a type is to need first what it refers to, in the order of its operands, and then to list it
abbrev mutual
  pub needing : TypeTree → List TypeTree → List TypeTree
  needing Void listed = listing Void listed
  needing Int listed = listing Int listed
  needing (Pointer pointee) listed = listing (Pointer pointee) (needing pointee listed)
  needing (Function given row) listed = listing (Function given row) (needing_row row (needing given listed))

  pub needing_row : TypeRow → List TypeTree → List TypeTree
  needing_row End listed = listed
  needing_row (Then tree row) listed = needing_row row (needing tree listed)

-- the types that a module lists which needs these, in this order
abbrev pub needing_all : List TypeTree → List TypeTree → List TypeTree
needing_all [] listed = listed
needing_all (tree ∷ trees) listed = needing_all trees (needing tree listed)

-- how many types stand before one
abbrev pub place_of : TypeTree → List TypeTree → ℕ
place_of tree [] = 0
place_of tree (other ∷ listed) = if is_same tree other then 0 else place_of tree listed + 1

abbrev pub place_in : List TypeTree → TypeTree → TyId
place_in listed tree = record { 0 = place_of tree listed }

abbrev pub places_in : List TypeTree → TypeRow → List TyId
places_in listed End = []
places_in listed (Then tree row) = place_in listed tree ∷ places_in listed row

-- the type as a table holds it that has these
abbrev pub entry_of : List TypeTree → TypeTree → Ty
entry_of listed Void = ty.Void
entry_of listed Int = ty.Int W32
entry_of listed (Pointer pointee) = ty.Pointer Global (place_in listed pointee)
entry_of listed (Function given row) = ty.Function (place_in listed given) (places_in listed row)
