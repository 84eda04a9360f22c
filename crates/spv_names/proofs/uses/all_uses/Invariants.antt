use Rattle.std.proofs.Common.{◌≡◌, [], take}
use Rattle.std.specs.List.{list_any}
use Rattle.spv_names.specs.Uses.{uses_behind, is_versioned}
use Rattle.spv_names.proofs.uses.all_uses.Given as goal

abbrev pub invariant-loop-index : goal.invariant-loop-index
invariant-loop-index l = record {
  uses : l.uses.items ≡ uses_behind l.insts [] (take l.index l.insts);
  sourced : l.sourced ≡ list_any is_versioned (take l.index l.insts);
}
