use Rattle.std.proofs.Common.{◌≡◌, ◌++◌, map, take}
use Rattle.spv_module.specs.Spelled.{mode_spelled}
use Rattle.spv_module.proofs.items.add_modes_of.Given as goal

abbrev pub invariant-loop-mode : goal.invariant-loop-mode
invariant-loop-mode l = l.insts.items ≡ l.initial.insts.items ++ map (mode_spelled l.entry.function) (take l.mode-index l.entry.modes)
