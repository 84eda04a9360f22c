use Rattle.std.proofs.Common.{◌≡◌, ◌++◌, take}
use Rattle.kernel_tree.specs.Text.{params_behind}
use Rattle.kernel_printer.proofs.params.push_params_behind.Given as goal

abbrev pub invariant-loop-param : goal.invariant-loop-param
invariant-loop-param l = l.text.items ≡ l.initial.text.items ++ params_behind (take l.param-index l.params)
