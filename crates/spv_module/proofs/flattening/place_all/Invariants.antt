use Rattle.std.proofs.Common.{◌≡◌, ◌++◌, take, drop}
use Rattle.spv_module.specs.Sections.{placed}
use Rattle.spv_module.proofs.flattening.place_all.Given as goal

abbrev pub invariant-loop-i : goal.invariant-loop-i
invariant-loop-i l = take l.i l.insts.items ++ placed l.place (drop l.i l.insts.items) ≡ placed 5 l.initial.insts.items
