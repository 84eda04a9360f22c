use Rattle.std.proofs.Common.{◌≡◌, ℕ, nat_eq, take}
use Rattle.std.specs.HashMap.{get}
use Rattle.spv_build.specs.Entries.{index_of}
use Rattle.spv_build.proofs.entries.first_indexes.Given as goal

abbrev pub invariant-loop-index : goal.invariant-loop-index
invariant-loop-index l = (function : ℕ) → get nat_eq l.indexes function ≡ index_of (take l.index l.entries) function
