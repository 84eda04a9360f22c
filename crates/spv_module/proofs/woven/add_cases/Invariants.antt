use Rattle.std.proofs.Common.{◌≡◌, ◌++◌, drop}
use Rattle.spv_module.specs.Woven.{cases}
use Rattle.spv_module.proofs.woven.add_cases.Given as goal

abbrev pub invariant-loop-id : goal.invariant-loop-id
invariant-loop-id l = l.out.items ++ cases l.width (drop l.id-index l.ids) l.rest ≡ l.initial.out.items ++ cases l.width l.ids l.words
