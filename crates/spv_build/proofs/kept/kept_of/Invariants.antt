use Rattle.std.proofs.Common.{◌≡◌, [], take}
use Rattle.std.specs.List.{list_any}
use Rattle.spv_names.specs.Uses.{is_versioned}
use Rattle.spv_build.specs.Kept.{kept_behind}
use Rattle.spv_build.proofs.kept.kept_of.Given as goal

abbrev pub invariant-loop-inst : goal.invariant-loop-inst
invariant-loop-inst l = record {
  kept : l.kept.items ≡ kept_behind l.insts [] (take l.inst-index l.insts);
  sourced : l.sourced ≡ list_any is_versioned (take l.inst-index l.insts);
}
