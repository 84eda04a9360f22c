-- Types are read back from their instructions.
use Rattle.std.proofs.Common.{◌≡◌, ℕ, Bool, List, [], ◌∷◌, All, Option, Some, map, refl, ap, ap₂}
use Rattle.std.specs.Prelude.{IfSome}
use Rattle.std.proofs.lemmas.List.Elements.{All-head, All-tail}
use Rattle.kern_lanes.specs.declared.width.Width.TheVariants.{W1, W8, W16, W32, W64}
use Rattle.kern_types.specs.declared.class.Class.{Class}
use Rattle.kern_types.specs.declared.class.Class.TheVariants as class
use Rattle.kern_types.specs.declared.ty.Ty.{Ty}
use Rattle.kern_types.specs.declared.ty.Ty.TheVariants as ty
use Rattle.kern_types.specs.declared.ty.TyId.{TyId}
use Rattle.spv_module.specs.declared.types.TypeName.{TypeName}
use Rattle.spv_module.specs.Spelled.{class_number, id_at, type_spelled}
use Rattle.spv_types.specs.Laws.{IsFound, IsTold, IsReadAs, TypesAreReadBack}
use Rattle.spv_types.specs.Readings.{class_of, put_place, places_of, vector_of, array_of, struct_of, pointer_of, function_of}

class-back : (class : Class) → class_of (class_number class) ≡ Some class
class-back class.Private = refl
class-back class.Global = refl
class-back class.Constant = refl
class-back class.Local = refl
class-back class.Generic = refl
class-back class.Input = refl

module _ (names : List TypeName) (places : ℕ → Option TyId) (numbers : ℕ → Option ℕ) (packed : ℕ → Bool) where
  abbrev Found : TyId → Type 0
  Found place = IsFound names places numbers packed place

  places-back : (parts : List TyId) → All Found parts → places_of places (map (id_at names) parts) ≡ Some parts
  places-back [] found = refl
  places-back (part ∷ parts) found =
      ap₂ put_place (All-head Found part parts found) (places-back parts (All-tail Found part parts found))

  back : (name : TypeName) (type : Ty) → IsTold names places numbers packed name type → IfSome (type_spelled names name type) (IsReadAs names places numbers packed type)
  back name ty.Void told = refl
  back name ty.Bool told = refl
  back name (ty.Int W1) told = absurd told
  back name (ty.Int W8) told = refl
  back name (ty.Int W16) told = refl
  back name (ty.Int W32) told = refl
  back name (ty.Int W64) told = refl
  back name (ty.Vector part lanes) told = ap (λ o. Some (vector_of o lanes)) told
  back name (ty.Array part count) told = ap₂ (λ o n. Some (array_of o n)) told.0 told.1
  back name (ty.Struct members is_packed) told = ap₂ (λ b o. Some (struct_of b o)) told.1 (places-back members told.0)
  back name (ty.Pointer class pointee) told = ap₂ (λ k o. Some (pointer_of k o)) (class-back class) told
  back name (ty.Function given params) told = ap₂ (λ o ps. Some (function_of o ps)) told.0 (places-back params told.1)
  back name ty.Other told = tt

pub read-back : TypesAreReadBack
read-back names places numbers packed name type told = back names places numbers packed name type told
