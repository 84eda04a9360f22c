-- What follows of the definitions.
use Rattle.std.specs.Prelude.{◌≡◌, ℕ}
use Rattle.ll_tree.specs.Example.{example}
use Rattle.ll_tree.specs.Modules.{without_places}

-- wherever the parts of the example stand, without places it is the example with each part at the first byte
abbrev pub ExampleLosesItsPlaces : Type 0
ExampleLosesItsPlaces = (place : ℕ → ℕ) → without_places (example place) ≡ example (λ byte. 0)
