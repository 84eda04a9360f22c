-- Scopes and their numbers
use Rattle.std.specs.Prelude.{ℕ}
use Rattle.kern_lanes.specs.declared.scope.Scope.{Scope}
use Rattle.kern_lanes.specs.declared.scope.Scope.TheVariants.{CrossDevice, Device, Workgroup, Subgroup, Invocation}

-- the number that SPIR-V gives to a scope
abbrev pub scope_number : Scope → ℕ
scope_number CrossDevice = 0
scope_number Device = 1
scope_number Workgroup = 2
scope_number Subgroup = 3
scope_number Invocation = 4
