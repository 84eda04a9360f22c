use Rattle.std.proofs.Common.{◌≡◌, ◌++◌, nat_eq, map, take, drop}
use Rattle.inst_walk.specs.Renaming.{renamed_name}
use Rattle.spv_module.proofs.inst_set.rename_ids.Given as goal

abbrev pub invariant-loop-i : goal.invariant-loop-i
invariant-loop-i l = l.ids ≡ map (renamed_name nat_eq l.names) (take l.i l.initial.ids) ++ drop l.i l.initial.ids
