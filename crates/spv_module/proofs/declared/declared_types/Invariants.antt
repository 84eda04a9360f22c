use Rattle.std.proofs.Common.{◌≡◌, flat_map, take}
use Rattle.std.specs.List.{zip}
use Rattle.spv_module.specs.Sections.{type_declared}
use Rattle.spv_module.proofs.declared.declared_types.Given as goal

abbrev pub invariant-loop-i : goal.invariant-loop-i
invariant-loop-i l = l.all.items ≡ flat_map (type_declared l.types.names) (take l.i (zip l.types.names l.types.table.types))
