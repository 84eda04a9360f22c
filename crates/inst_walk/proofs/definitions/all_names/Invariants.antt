use Rattle.std.proofs.Common.{◌≡◌, ◌++◌, take}
use Rattle.std.specs.Prelude.{flat_map, map}
use Rattle.inst_walk.specs.Uses.{results_of}
use Rattle.inst_walk.proofs.definitions.all_names.Given as goal

abbrev pub invariant-loop-block : goal.invariant-loop-block
invariant-loop-block g l = l.names.items ≡ l.body.params ++ flat_map (λ b. results_of (map g.I.InstSet.outline b.insts)) (take l.block-index l.blocks)
