-- The parts of a type that is read are types of the table.
use Rattle.std.proofs.Common.{ℕ, Bool, true, false, List, [], ◌∷◌, All, Option, Some, None}
use Rattle.std.specs.Prelude.{◌==◌, if◌then◌else◌, IfSome}
use Rattle.std.proofs.lemmas.List.Elements.{All-nil, All-cons}
use Rattle.kern_lanes.specs.declared.width.Width.TheVariants.{W8, W16, W32, W64}
use Rattle.kern_types.specs.declared.class.Class.{Class}
use Rattle.kern_types.specs.declared.ty.Ty.TheVariants as ty
use Rattle.kern_types.specs.declared.ty.TyId.{TyId}
use Rattle.kern_types.specs.Parts.{IsAmongFirst, HasPartsIn}
use Rattle.spv_layout.specs.declared.opcode.Opcode.{Opcode}
use Rattle.spv_layout.specs.declared.opcode.Opcode.TheVariants as op
use Rattle.spv_types.specs.Readings.{class_of, int_of, int_by, put_place, places_of, vector_of, vector_by, array_of, array_by, struct_of, struct_by, pointer_of, pointer_by, function_of, function_by, type_by}

module _ (n : ℕ) where
  abbrev Within : Option TyId → Type 0
  Within place = IfSome place (IsAmongFirst n)

  abbrev AllWithin : Option (List TyId) → Type 0
  AllWithin places = IfSome places (All (IsAmongFirst n))

  put-within : (place : Option TyId) (others : Option (List TyId)) → Within place → AllWithin others → AllWithin (put_place place others)
  put-within None others p q = tt
  put-within (Some place) None p q = tt
  put-within (Some place) (Some others) p q = All-cons (IsAmongFirst n) place others p q

  int-of-within : (a b c d : Bool) → HasPartsIn n (if a then ty.Int W8 else (if b then ty.Int W16 else (if c then ty.Int W32 else (if d then ty.Int W64 else ty.Other))))
  int-of-within true b c d = tt
  int-of-within false true c d = tt
  int-of-within false false true d = tt
  int-of-within false false false true = tt
  int-of-within false false false false = tt

  int-signed : (b : Bool) (width : ℕ) → HasPartsIn n (if b then int_of width else ty.Other)
  int-signed true width = int-of-within (width == 8) (width == 16) (width == 32) (width == 64)
  int-signed false width = tt

  int-within : (operands : List ℕ) → HasPartsIn n (int_by operands)
  int-within [] = tt
  int-within (id ∷ []) = tt
  int-within (id ∷ width ∷ []) = tt
  int-within (id ∷ width ∷ sign ∷ []) = int-signed (sign == 0) width
  int-within (id ∷ width ∷ sign ∷ more ∷ rest) = tt

  vector-of-within : (place : Option TyId) (lanes : ℕ) → Within place → HasPartsIn n (vector_of place lanes)
  vector-of-within None lanes p = tt
  vector-of-within (Some place) lanes p = p

  array-of-within : (place : Option TyId) (count : Option ℕ) → Within place → HasPartsIn n (array_of place count)
  array-of-within None count p = tt
  array-of-within (Some place) None p = tt
  array-of-within (Some place) (Some count) p = p

  struct-of-within : (packed : Bool) (members : Option (List TyId)) → AllWithin members → HasPartsIn n (struct_of packed members)
  struct-of-within packed None p = tt
  struct-of-within packed (Some members) p = p

  pointer-of-within : (class : Option Class) (place : Option TyId) → Within place → HasPartsIn n (pointer_of class place)
  pointer-of-within None place p = tt
  pointer-of-within (Some class) None p = tt
  pointer-of-within (Some class) (Some place) p = p

  function-of-within : (given : Option TyId) (params : Option (List TyId)) → Within given → AllWithin params → HasPartsIn n (function_of given params)
  function-of-within None params p q = tt
  function-of-within (Some given) None p q = tt
  function-of-within (Some given) (Some params) p q = (p, q)

  module _ (places : ℕ → Option TyId) (within : (id : ℕ) → Within (places id)) where
    all-within : (ids : List ℕ) → AllWithin (places_of places ids)
    all-within [] = All-nil (IsAmongFirst n)
    all-within (id ∷ ids) = put-within (places id) (places_of places ids) (within id) (all-within ids)

    vector-within : (operands : List ℕ) → HasPartsIn n (vector_by places operands)
    vector-within [] = tt
    vector-within (id ∷ []) = tt
    vector-within (id ∷ part ∷ []) = tt
    vector-within (id ∷ part ∷ lanes ∷ []) = vector-of-within (places part) lanes (within part)
    vector-within (id ∷ part ∷ lanes ∷ more ∷ rest) = tt

    array-within : (numbers : ℕ → Option ℕ) (operands : List ℕ) → HasPartsIn n (array_by places numbers operands)
    array-within numbers [] = tt
    array-within numbers (id ∷ []) = tt
    array-within numbers (id ∷ part ∷ []) = tt
    array-within numbers (id ∷ part ∷ length ∷ []) = array-of-within (places part) (numbers length) (within part)
    array-within numbers (id ∷ part ∷ length ∷ more ∷ rest) = tt

    struct-within : (packed : ℕ → Bool) (operands : List ℕ) → HasPartsIn n (struct_by places packed operands)
    struct-within packed [] = tt
    struct-within packed (id ∷ members) = struct-of-within (packed id) (places_of places members) (all-within members)

    pointer-within : (operands : List ℕ) → HasPartsIn n (pointer_by places operands)
    pointer-within [] = tt
    pointer-within (id ∷ []) = tt
    pointer-within (id ∷ class ∷ []) = tt
    pointer-within (id ∷ class ∷ pointee ∷ []) = pointer-of-within (class_of class) (places pointee) (within pointee)
    pointer-within (id ∷ class ∷ pointee ∷ more ∷ rest) = tt

    function-within : (operands : List ℕ) → HasPartsIn n (function_by places operands)
    function-within [] = tt
    function-within (id ∷ []) = tt
    function-within (id ∷ given ∷ params) = function-of-within (places given) (places_of places params) (within given) (all-within params)

    module _ (numbers : ℕ → Option ℕ) (packed : ℕ → Bool) (operands : List ℕ) where
      abbrev HasParts : Option Opcode → Type 0
      HasParts opcode = IfSome (type_by places numbers packed opcode operands) (HasPartsIn n)

      pub parts-within : (opcode : Option Opcode) → HasParts opcode
      parts-within None = tt
      parts-within (Some opcode) = by_opcode opcode
        where
          by_opcode : (opcode : Opcode) → HasParts (Some opcode)
          by_opcode op.TypeVoid = tt
          by_opcode op.TypeBool = tt
          by_opcode op.TypeInt = int-within operands
          by_opcode op.TypeVector = vector-within operands
          by_opcode op.TypeArray = array-within numbers operands
          by_opcode op.TypeStruct = struct-within packed operands
          by_opcode op.TypePointer = pointer-within operands
          by_opcode op.TypeFunction = function-within operands
          by_opcode opcode = tt
