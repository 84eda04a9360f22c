-- Where a rule isn't broken, no place is told.
use Rattle.std.proofs.Common.{◌≡◌, ℕ, Bool, false, List, [], ◌++◌, ap, ◌∙◌}
use Rattle.spv_sections.specs.Places.{place_if}

-- no place is told where the test fails
pub no-place : (b : Bool) (place : ℕ) (rest : List ℕ) → b ≡ false → rest ≡ [] → place_if b place ++ rest ≡ []
no-place b place rest is none = ap (λ t. place_if t place ++ rest) is ∙ none
