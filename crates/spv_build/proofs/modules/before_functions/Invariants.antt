use Rattle.std.proofs.Common.{◌≡◌, ◌++◌, take, drop}
use Rattle.spv_build.specs.Modules.{before_functions}
use Rattle.spv_build.proofs.modules.before_functions.Given as goal

abbrev pub invariant-loop-index : goal.invariant-loop-index
invariant-loop-index l = take l.index l.insts ++ before_functions (drop l.index l.insts) ≡ before_functions l.insts
