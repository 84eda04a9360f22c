use Rattle.std.proofs.Common.{◌≡◌, ◌++◌, take}
use Rattle.std.specs.List.{filter_map}
use Rattle.inst_walk.proofs.definitions.add_results.Given as goal

abbrev pub invariant-loop-inst : goal.invariant-loop-inst
invariant-loop-inst g l = l.names.items ≡ l.initial.names.items ++ filter_map (λ inst. (g.I.InstSet.outline inst).defines) (take l.inst-index l.insts)
