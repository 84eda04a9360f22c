use Rattle.std.proofs.Common.{◌≡◌, ◌++◌, map, take}
use Rattle.kernel_tree.specs.Names.{param_definition}
use Rattle.ll_canon.proofs.definitions.add_params.Given as goal

abbrev pub invariant-loop-param : goal.invariant-loop-param
invariant-loop-param l = l.defined.items ≡ l.initial.defined.items ++ map param_definition (take l.param-index l.params)
