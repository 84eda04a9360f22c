-- Tables of names: what a number stands for is the entry at its place.
use Rattle.std.specs.Prelude.{◌≡◌, ℕ, List, ◌++◌, Some, slice_get}
use Rattle.ll_tree.specs.declared.name.NameText.{NameText}

-- no name has two numbers
abbrev pub NoNameTwice : List NameText → Type 0
NoNameTwice names = (i j : ℕ) (entry : NameText) → slice_get names i ≡ Some entry → slice_get names j ≡ Some entry → i ≡ j

-- the second table has the entries of the first, and perhaps more behind them
abbrev pub Extends : List NameText → List NameText → Type 0
Extends names longer = (more : List NameText) × (longer ≡ names ++ more)
