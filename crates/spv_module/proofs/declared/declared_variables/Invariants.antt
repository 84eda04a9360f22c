use Rattle.std.proofs.Common.{◌≡◌, map, take}
use Rattle.spv_module.specs.Sections.{variable_declared}
use Rattle.spv_module.proofs.declared.declared_variables.Given as goal

abbrev pub invariant-loop-variable : goal.invariant-loop-variable
invariant-loop-variable l = l.all.items ≡ map variable_declared (take l.variable-index l.variables)
