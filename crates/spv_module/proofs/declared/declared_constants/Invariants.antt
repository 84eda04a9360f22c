use Rattle.std.proofs.Common.{◌≡◌, map, take}
use Rattle.spv_module.specs.Sections.{constant_declared}
use Rattle.spv_module.proofs.declared.declared_constants.Given as goal

abbrev pub invariant-loop-constant : goal.invariant-loop-constant
invariant-loop-constant l = l.all.items ≡ map constant_declared (take l.constant-index l.constants)
