use Rattle.std.proofs.Common.{◌≡◌, map, take}
use Rattle.kernel_tree.specs.Canonical.{param_numbered}
use Rattle.ll_canon.proofs.numbered.params.Given as goal

abbrev pub invariant-loop-param : goal.invariant-loop-param
invariant-loop-param l = l.made ≡ map (param_numbered l.places) (take l.param-index l.params)
