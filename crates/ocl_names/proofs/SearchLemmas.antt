-- What a search in a table gives
use Rattle.std.proofs.Common.{◌≡◌, ℕ, ◌≤◌, Bool, true, false, cond, List, [], ◌∷◌, ◌++◌, length, drop, Option, Some, None, IfSome, ap, sym, ◌∙◌, refl, arith, nat_eq}
use Rattle.std.specs.List.{find, starts_with}
use Rattle.std.specs.Option.{option_map}
use Rattle.std.proofs.lemmas.Bool.Decides.{Decides-eqb}
use Rattle.std.proofs.lemmas.Slice.Eq.{starts_is}
use Rattle.std.proofs.Math.ListN.{length-append}

passes_by_test : {X : Type 0} (p : X → Bool) (y : X) (r : Option X) (x : X) (b : Bool) → p y ≡ b → (r ≡ Some x → p x ≡ true) → cond b (Some y) r ≡ Some x → p x ≡ true
passes_by_test p y r x true passes rest found = let same : y ≡ x = cc in sym (ap p same) ∙ passes
passes_by_test p y r x false fails rest found = rest found

-- what is found passes the test
pub find_passes : {X : Type 0} (p : X → Bool) (xs : List X) (x : X) → find p xs ≡ Some x → p x ≡ true
find_passes p [] x e = cc
find_passes p (y ∷ ys) x e = passes_by_test p y (find p ys) x (p y) refl (find_passes p ys x) e

-- a text begins with the front that is found in a table
pub found_front : {X : Type 0} (front : X → List ℕ) (text : List ℕ) (xs : List X) (x : X) → find (λ x. starts_with nat_eq text (front x)) xs ≡ Some x → text ≡ front x ++ drop (length (front x)) text
found_front front text xs x e =
    let passes = find_passes (λ x. starts_with nat_eq text (front x)) xs x e in
    (starts_is Decides-eqb text (front x) true (sym passes)).0 refl

-- and so is no shorter
pub found_within : {X : Type 0} (front : X → List ℕ) (text : List ℕ) (xs : List X) (r : Option X) → r ≡ find (λ x. starts_with nat_eq text (front x)) xs → IfSome r (λ x. length (front x) ≤ length text)
found_within front text xs None e = tt
found_within front text xs (Some x) e =
    let split = found_front front text xs x (sym e) in
    omega (arith, ap length split ∙ length-append (front x) (drop (length (front x)) text))

-- the same of what shows as that front
pub front_within : {X : Type 0} (front : X → List ℕ) (text : List ℕ) (xs : List X) (x : X) (shown : List ℕ) → find (λ x. starts_with nat_eq text (front x)) xs ≡ Some x → shown ≡ front x → length shown ≤ length text
front_within front text xs x shown found same =
    let split = found_front front text xs x found in
    omega (arith, ap length same, ap length split ∙ length-append (front x) (drop (length (front x)) text))

-- what a mapped option has come from
pub option_map_some : {A B P : Type 0} (f : A → B) (o : Option A) (y : B) → option_map f o ≡ Some y → ((x : A) → o ≡ Some x → f x ≡ y → P) → P
option_map_some f None y e from = absurd (cc)
option_map_some f (Some x) y e from = from x refl (cc)

pub option_map_none : {A B : Type 0} (f : A → B) (o : Option A) → option_map f o ≡ None → o ≡ None
option_map_none f None e = refl
option_map_none f (Some x) e = absurd (cc)
