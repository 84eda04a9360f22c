use Rattle.std.proofs.Common.{◌≡◌, ℕ, nat_eq, take, None}
use Rattle.std.specs.HashMap.{get}
use Rattle.spv_names.specs.Definitions.{entry_of, function_after}
use Rattle.spv_names.proofs.definitions.Definitions.of.Given as goal

abbrev pub invariant-loop-index : goal.invariant-loop-index
invariant-loop-index l = record {
  known : (id : ℕ) → get nat_eq l.definitions.first id ≡ entry_of (take l.index l.insts) id;
  function : l.function ≡ function_after 0 None (take l.index l.insts);
}
