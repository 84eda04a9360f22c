use Rattle.std.proofs.Common.{◌≡◌, ◌++◌, flat_map, take}
use Rattle.std.specs.List.{zip}
use Rattle.spv_module.specs.Sections.{body_spelled}
use Rattle.spv_module.proofs.flattening.add_functions.Given as goal

abbrev pub invariant-loop-i : goal.invariant-loop-i
invariant-loop-i l = l.insts.items ≡ l.initial.insts.items ++ flat_map body_spelled (take l.i (zip l.functions l.bodies))
