use Rattle.std.proofs.Common.{◌≡◌, ◌++◌, drop}
use Rattle.spv_module.specs.Woven.{woven}
use Rattle.spv_module.proofs.woven.weave.Given as goal

abbrev pub invariant-loop-kind : goal.invariant-loop-kind
invariant-loop-kind l = l.out.items ++ woven l.inst (drop l.kind-index l.kinds) l.ids l.words ≡ woven l.inst l.kinds l.inst.operands.ids l.inst.operands.words
