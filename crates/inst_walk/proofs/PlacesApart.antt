-- Names that stand in a list have different places in it.
use Rattle.std.proofs.Common.{◌≡◌, ℕ, suc, Bool, true, false, cond, List, [], ◌∷◌, Some, refl, sym, ◌∙◌, ap, ⊎_elim}
use Rattle.std.specs.Prelude.{slice_get, Contains}
use Rattle.std.specs.Option.{option_map}
use Rattle.inst_walk.specs.Places.{place_of}
use Rattle.inst_walk.specs.RenamedBody.{IsInjectiveOn}
use Rattle.inst_walk.proofs.Injective.{IsIdentity}
use Rattle.inst_walk.proofs.ListLemmas.{contains-none, contains-cases}

some-same : {A : Type 0} (a b : A) → Some a ≡ Some b → a ≡ b
some-same a b e = cc

-- the place of a name, and the name there
record Found {N : Type 0} (eq : N → N → Bool) (names : List N) (name : N) : Type 0 where
  pub place : ℕ
  pub found : place_of eq names name ≡ Some place
  pub there : slice_get names place ≡ Some name

module _ {N : Type 0} (eq : N → N → Bool) (identity : IsIdentity eq) where
  found-at : (b : Bool) (n name : N) (names : List N) → eq n name ≡ b → (b ≡ false → Found eq names name) → Found eq (n ∷ names) name
  found-at true n name names e rest = record {
    place = 0;
    found = ap (λ t. cond t (Some 0) (option_map suc (place_of eq names name))) e;
    there = ap Some (identity.same n name e);
  }
  found-at false n name names e rest =
      let later : Found eq names name = rest refl in
      record {
        place = suc later.place;
        found = ap (λ t. cond t (Some 0) (option_map suc (place_of eq names name))) e ∙ ap (option_map suc) later.found;
        there = later.there;
      }

  found-in : (names : List N) (name : N) → Contains names name → Found eq names name
  found-in [] name h = contains-none name _ h
  found-in (n ∷ names) name h =
      found-at (eq n name) n name names refl
      (λ other. ⊎_elim
      (λ e. let same : true ≡ false = sym (identity.itself n) ∙ ap (eq n) e ∙ other in absurd cc)
      (λ i. found-in names name i)
      (contains-cases n name names h))

  pub places-apart : (names : List N) → IsInjectiveOn (place_of eq names) names
  places-apart names a b i j e =
      let x : Found eq names a = found-in names a i in
      let y : Found eq names b = found-in names b j in
      let at : x.place ≡ y.place = some-same x.place y.place (sym x.found ∙ e ∙ y.found) in
      some-same a b (sym x.there ∙ ap (slice_get names) at ∙ y.there)
