use Rattle.std.proofs.Common.{◌≡◌, ℕ, nat_eq, drop}
use Rattle.std.specs.HashMap.{get}
use Rattle.spv_build.specs.Entries.{index_of, put_modes}
use Rattle.spv_build.proofs.entries.put_modes.Given as goal

abbrev pub invariant-loop-given : goal.invariant-loop-given
invariant-loop-given l = record {
  indexed : (function : ℕ) → get nat_eq l.indexes function ≡ index_of l.entries.items function;
  going : put_modes (drop l.given-index l.modes) l.entries.items ≡ put_modes l.modes l.initial.entries.items;
}
