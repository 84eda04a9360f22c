-- The places of types in a table that grows.
use Rattle.std.proofs.Common.{◌≡◌, ℕ, ◌+◌, ◌<◌, ◌==◌, Bool, true, false, List, [], ◌∷◌, ◌++◌, length, Option, Some, None, refl, ap, sym, ◌∙◌, arith}
use Rattle.std.specs.Prelude.{if◌then◌else◌, IfSome}
use Rattle.std.specs.Option.{option_or}
use Rattle.kern_types.specs.declared.ty.TyId.{TyId}
use Rattle.kern_types.specs.Parts.{IsAmongFirst}
use Rattle.spv_module.specs.declared.types.TypeName.{TypeName}
use Rattle.spv_types.specs.Tables.{place_from, place_of}

abbrev at : ℕ → TyId
at place = record { 0 = place }

one-place : (b : Bool) (place : TyId) (rest : Option TyId) → (if b then Some place else rest) ≡ option_or (if b then Some place else None) rest
one-place true place rest = refl
one-place false place rest = refl

or-more : (b : Bool) (place : TyId) (rest more : Option TyId) → (if b then Some place else option_or rest more) ≡ option_or (if b then Some place else rest) more
or-more true place rest more = refl
or-more false place rest more = refl

place-more : (from : ℕ) (names : List TypeName) (name : TypeName) (id : ℕ)
    → place_from from (names ++ name ∷ []) id ≡ option_or (place_from from names id) (if name.id == id then Some (at (from + length names)) else None)
place-more from [] name id = ap (λ n. if name.id == id then Some (at n) else None) (omega arith)
place-more from (other ∷ others) name id =
    ap (λ o. if other.id == id then Some (at from) else o)
    (place-more (from + 1) others name id
    ∙ ap (λ n. option_or (place_from (from + 1) others id) (if name.id == id then Some (at n) else None)) (omega arith))
    ∙ or-more (other.id == id) (at from) (place_from (from + 1) others id) (if name.id == id then Some (at (from + length (other ∷ others))) else None)

pub placed-more : (names : List TypeName) (name : TypeName) (id : ℕ)
    → place_of (names ++ name ∷ []) id ≡ option_or (place_of names id) (if name.id == id then Some (at (length names)) else None)
placed-more names name id =
    place-more 0 names name id ∙ ap (λ n. option_or (place_of names id) (if name.id == id then Some (at n) else None)) (omega arith)

none_some : {P : Type 0} (d : TyId) → None ≡ Some d → P
none_some d e = cc

abbrev number_or : ℕ → Option TyId → ℕ
number_or n None = n
number_or n (Some place) = place.0

within-from : (from : ℕ) (names : List TypeName) (id : ℕ) (place : TyId) → place_from from names id ≡ Some place → place.0 < from + length names
within-from from [] id place e = none_some place e
within-from from (name ∷ names) id place e = by_test (name.id == id) (within-from (from + 1) names id place) e
  where
    by_test : (b : Bool) → (place_from (from + 1) names id ≡ Some place → place.0 < from + 1 + length names)
        → (if b then Some (at from) else place_from (from + 1) names id) ≡ Some place → place.0 < from + length (name ∷ names)
    by_test true rest is = omega (arith, ap (number_or 0) is)
    by_test false rest is = omega (arith, rest is)

-- a type that is found is one of the table
place-within : (names : List TypeName) (id : ℕ) (place : TyId) → place_of names id ≡ Some place → place.0 < length names
place-within names id place e = omega (arith, within-from 0 names id place e)

-- whatever finds the same types finds types of the table
pub found-within : (names : List TypeName) (found : ℕ → Option TyId) → ((id : ℕ) → found id ≡ place_of names id) → (id : ℕ) → IfSome (found id) (IsAmongFirst (length names))
found-within names found same id = by_place (found id) (λ place e. place-within names id place (sym (same id) ∙ e))
  where
    by_place : (o : Option TyId) → ((place : TyId) → o ≡ Some place → place.0 < length names) → IfSome o (IsAmongFirst (length names))
    by_place None h = tt
    by_place (Some place) h = h place refl
