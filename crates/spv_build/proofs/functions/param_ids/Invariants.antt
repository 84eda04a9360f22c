use Rattle.std.proofs.Common.{◌≡◌, map, take}
use Rattle.spv_build.specs.Functions.{param_id}
use Rattle.spv_build.proofs.functions.param_ids.Given as goal

abbrev pub invariant-loop-param : goal.invariant-loop-param
invariant-loop-param l = l.ids.items ≡ map param_id (take l.param-index l.params)
