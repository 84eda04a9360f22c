-- The types of a module's table as trees (SPIR-V 1.2, 3.32.6 "Type-Declaration Instructions").
use Rattle.std.specs.Prelude.{ℕ, List, [], ◌∷◌, ◌++◌, map, nat_eq, slice_get, unwrap_or}
use Rattle.inst_walk.specs.Places.{place_of}
use Rattle.kern_types.specs.declared.ty.Ty.{Ty}
use Rattle.kern_types.specs.declared.ty.Ty.TheVariants as ty
use Rattle.kern_types.specs.declared.ty.TyId.{TyId}
use Rattle.spv_module.specs.declared.types.TypeName.{TypeName}
use Rattle.spv_module.specs.NamedTypes.{NamedTypes}
use Rattle.to_spirv.specs.TypeTrees.{TypeTree, TypeRow, Void, Int, Pointer, Function, End, Then}

-- the tree at a place of the table
abbrev pub tree_at : List TypeTree → TyId → TypeTree
tree_at trees place = unwrap_or (slice_get trees place.0) Void

abbrev pub row_at : List TypeTree → List TyId → TypeRow
row_at trees [] = End
row_at trees (place ∷ places) = Then (tree_at trees place) (row_at trees places)

-- The tree of a type, where these are the trees of the types before it. The integers of the covered subset have 32 bits and its pointers are
-- to CrossWorkgroup; types that it lacks stand as `void`
abbrev pub tree_of_entry : List TypeTree → Ty → TypeTree
tree_of_entry trees (ty.Int width) = Int
tree_of_entry trees (ty.Pointer class to) = Pointer (tree_at trees to)
tree_of_entry trees (ty.Function given params) = Function (tree_at trees given) (row_at trees params)
tree_of_entry trees _ = Void

-- the trees of more types, each made of those before it
abbrev pub trees_behind : List TypeTree → List Ty → List TypeTree
trees_behind trees [] = trees
trees_behind trees (entry ∷ entries) = trees_behind (trees ++ tree_of_entry trees entry ∷ []) entries

abbrev pub trees_of : NamedTypes → List TypeTree
trees_of types = trees_behind [] types.table.types

abbrev pub id_of_type : TypeName → ℕ
id_of_type name = name.id

abbrev pub type_ids : NamedTypes → List ℕ
type_ids types = map id_of_type types.names

abbrev pub place_with_id : NamedTypes → ℕ → TyId
place_with_id types id = record { 0 = unwrap_or (place_of nat_eq (type_ids types) id) 0 }

-- the tree of the type with this id
abbrev pub tree_with_id : NamedTypes → ℕ → TypeTree
tree_with_id types id = tree_at (trees_of types) (place_with_id types id)
