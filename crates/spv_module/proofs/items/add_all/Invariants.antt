use Rattle.std.proofs.Common.{◌≡◌, ◌++◌, map, take}
use Rattle.spv_module.proofs.items.add_all.Given as goal

abbrev pub invariant-loop-item : goal.invariant-loop-item
invariant-loop-item g l = l.insts.items ≡ l.initial.insts.items ++ map g.T.Spells.instruction (take l.item-index l.items)
