-- Looking for an element of a mapped list.
use Rattle.std.specs.Prelude.{◌≡◌, Bool, true, false, List, [], ◌∷◌, map, find, refl, if◌then◌else◌, Option, None, Some}
use Rattle.std.specs.Option.{option_map, option_copied}
use Rattle.std.proofs.Common.{Bor}

chosen : {A B : Type 0} (f : A → B) (x : A) (b : Bool) (image : Option B) (found : Option A) → image ≡ option_map f found
    → (if b then Some (f x) else image) ≡ option_map f (if b then Some x else found)
chosen f x true image found e = refl
chosen f x false image found e = e

-- what is found among the images is the image of what is found
pub find-map : {A B : Type 0} (p : B → Bool) (f : A → B) (xs : List A) → find p (map f xs) ≡ option_map f (find (λ x. p (f x)) xs)
find-map p f [] = refl
find-map p f (x ∷ xs) = chosen f x (p (f x)) _ _ (find-map p f xs)

-- what a reference that may be there points to, and then its image
pub option_map-option_copied : {A B : Type 0} (f : A → B) (r : Option (Bor A)) → option_map (λ x. f x.now) r ≡ option_map f (option_copied r)
option_map-option_copied f None = refl
option_map-option_copied f (Some x) = refl
