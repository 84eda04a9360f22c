use Rattle.std.proofs.Common.{◌≡◌, map, take}
use Rattle.to_spirv.specs.Partner.{param_id}
use Rattle.to_spirv.proofs.body.param_ids.Given as goal

abbrev pub invariant-loop-param : goal.invariant-loop-param
invariant-loop-param l = l.all.items ≡ map (param_id l.ids) (take l.param-index l.params)
