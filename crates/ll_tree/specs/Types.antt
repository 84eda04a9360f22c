-- Types with each of their names changed, and the width of an integer type (LLVM 14, Type System).
use Rattle.std.specs.Prelude.{ℕ, List, [], ◌∷◌, Option, None, Some}
use Rattle.ll_tree.specs.declared.name.Name.{Name}
use Rattle.ll_tree.specs.declared.ty.LlType.{LlType}
use Rattle.ll_tree.specs.declared.ty.TypeBase.{TypeBase, Void, Int, Half, Float, Double, Named, Array', Vector', Struct', Packed', Row_of-LlType, end_of-LlType, more_of-LlType}

module _ (change : Name → Name) where
  abbrev mutual
    pub base_changed : TypeBase → TypeBase
    base_changed Void = Void
    base_changed (Int bits) = Int bits
    base_changed Half = Half
    base_changed Float = Float
    base_changed Double = Double
    base_changed (Named name) = Named (change name)
    base_changed (Array' count shape part) = Array' count shape (row_changed part)
    base_changed (Vector' lanes shape part) = Vector' lanes shape (row_changed part)
    base_changed (Struct' shape members) = Struct' shape (row_changed members)
    base_changed (Packed' shape members) = Packed' shape (row_changed members)

    -- the same of each type in a list
    pub row_changed : {n : _} → Row_of-LlType n → Row_of-LlType n
    row_changed end_of-LlType = end_of-LlType
    row_changed (more_of-LlType base pointers rest) = more_of-LlType (base_changed base) pointers (row_changed rest)

  -- the type with each name of a struct type changed
  abbrev pub type_changed : LlType → LlType
  type_changed ty = record { base = base_changed ty.base; pointers = ty.pointers }

-- the bits of an integer with these `*` behind it, which is an integer where there are none
abbrev pub width_without : List ℕ → ℕ → Option ℕ
width_without [] bits = Some bits
width_without (space ∷ spaces) bits = None

abbrev pub base_width : List ℕ → TypeBase → Option ℕ
base_width pointers (Int bits) = width_without pointers bits
base_width pointers _ = None

-- the number of bits of an integer type
abbrev pub int_width : LlType → Option ℕ
int_width ty = base_width ty.pointers ty.base
