-- The first place of a list at which something is found.
use Rattle.std.specs.Prelude.{ℕ, ◌+◌, Bool, if◌then◌else◌, List, [], ◌∷◌, Option, None, Some}

module _ {B : Type 0} where
  -- what was found at a place, or else what comes after it
  abbrev pub found_or : ℕ → Option B → Option (ℕ × B) → Option (ℕ × B)
  found_or place None later = later
  found_or place (Some b) later = Some (place, b)

  -- the first place with what is found there, in a list that begins at `place`
  abbrev pub first_from : {A : Type 0} → (ℕ → A → Option B) → ℕ → List A → Option (ℕ × B)
  first_from find place [] = None
  first_from find place (x ∷ xs) = found_or place (find place x) (first_from find (place + 1) xs)

-- the first place at which the test of place and item passes, in a list that begins at `place`
abbrev pub position_at : {A : Type 0} → (ℕ → A → Bool) → ℕ → List A → Option ℕ
position_at test place [] = None
position_at test place (x ∷ xs) = if test place x then Some place else position_at test (place + 1) xs
