use Rattle.std.proofs.Common.{◌≡◌, false, take}
use Rattle.std.specs.List.{list_any}
use Rattle.inst_walk.specs.Uses.{breaks_use, takings_of}
use Rattle.inst_walk.proofs.uses.breaks_rule.Given as goal

abbrev pub invariant-loop-i : goal.invariant-loop-i
invariant-loop-i g l =
    list_any (breaks_use g.I.Name.PartialEq.eq l.definitions.labels l.definitions.defined l.definitions.reached (take l.limit l.definitions.reached)) (take l.i (takings_of (g.I.InstSet.outline l.inst).uses)) ≡ false
