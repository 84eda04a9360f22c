-- A table of places that is filled from the last name to the first.
use Rattle.std.proofs.Common.{◌≡◌, ℕ, zero, suc, ◌+◌, Bool, true, false, cond, List, [], ◌∷◌, Option, None, Some, take, refl, ◌∙◌, arith}
use Rattle.std.specs.Prelude.{nat_lt, is_some}
use Rattle.std.proofs.lemmas.Bool.Decides.{nat_tests}
use Rattle.inst_walk.specs.Places.{place_of, is_among}
use Rattle.std.specs.Option.{option_map, option_map_or}

-- the places from `at` on
abbrev pub shifted : ℕ → Option ℕ → Option ℕ
shifted at place = option_map (λ k. at + k) place

abbrev pub below : ℕ → Option ℕ → Bool
below limit place = option_map_or (λ k. nat_lt k limit) place false

below-zero : (place : Option ℕ) → false ≡ below 0 place
below-zero None = refl
below-zero (Some k) = grind (arith, nat_tests)

is_some-suc : (place : Option ℕ) → is_some (option_map suc place) ≡ is_some place
is_some-suc None = refl
is_some-suc (Some k) = refl

below-suc : (limit : ℕ) (place : Option ℕ) → below limit place ≡ below (suc limit) (option_map suc place)
below-suc limit None = refl
below-suc limit (Some k) = grind (arith, nat_tests)

zero-below : (limit : ℕ) → true ≡ nat_lt 0 (suc limit)
zero-below limit = grind (arith, nat_tests)

module _ {N : Type 0} (eq : N → N → Bool) where
  taken-here : (b : Bool) (limit : ℕ) (taken place : Option ℕ) → is_some taken ≡ below limit place → is_some (cond b (Some 0) (option_map suc taken)) ≡ below (suc limit) (cond b (Some 0) (option_map suc place))
  taken-here true limit taken place h = zero-below limit
  taken-here false limit taken place h = is_some-suc taken ∙ h ∙ below-suc limit place

  -- a name is among the first few where its place is one of theirs
  pub is_among-take : (names : List N) (limit : ℕ) (name : N) → is_among eq (take limit names) name ≡ below limit (place_of eq names name)
  is_among-take [] zero name = refl
  is_among-take [] (suc limit) name = refl
  is_among-take (n ∷ names) zero name = below-zero (place_of eq (n ∷ names) name)
  is_among-take (n ∷ names) (suc limit) name = taken-here (eq n name) limit (place_of eq (take limit names) name) (place_of eq names name) (is_among-take names limit name)
