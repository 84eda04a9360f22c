use Rattle.std.proofs.Common.{◌≡◌, ◌++◌, flat_map, take}
use Rattle.spv_module.specs.Spelled.{modes_spelled}
use Rattle.spv_module.proofs.items.add_modes.Given as goal

abbrev pub invariant-loop-entry : goal.invariant-loop-entry
invariant-loop-entry l = l.insts.items ≡ l.initial.insts.items ++ flat_map modes_spelled (take l.entry-index l.entries)
