-- What a call does to the bytes that a source has left and to those that a sink holds, where they are told.
use Rattle.std.specs.Prelude.{◌≡◌, ℕ, ◌≤◌, List, length, take, Option, IsSome}
use Rattle.std.specs.Io.KnownBytes.{prepend_known, append_known}

-- the source gave these bytes: what was left is they and then what is left, and is told if it was told
abbrev pub Gives : Option (List ℕ) → Option (List ℕ) → List ℕ → Type 0
Gives old new given = old ≡ prepend_known given new

-- the source gave some bytes, in order from the first that was left
pub record GivesSome (old new : Option (List ℕ)) : Type 0 where
  pub given : List ℕ
  pub gives : Gives old new given

-- the sink took these bytes: where it tells what it holds, it told so before, and holds them at the end
abbrev pub Takes : Option (List ℕ) → Option (List ℕ) → List ℕ → Type 0
Takes old new taken = IsSome new → new ≡ append_known old taken

-- the sink took a prefix of these bytes
pub record TakesPrefix (old new : Option (List ℕ)) (bytes : List ℕ) : Type 0 where
  pub count : ℕ
  pub within : count ≤ length bytes
  pub takes : Takes old new (take count bytes)

-- the source gave this many bytes, in order from the first that was left
pub record GivesCount (count : ℕ) (old new : Option (List ℕ)) : Type 0 where
  pub given : List ℕ
  pub counts : length given ≡ count
  pub gives : Gives old new given
