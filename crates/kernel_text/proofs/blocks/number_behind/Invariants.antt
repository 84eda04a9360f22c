use Rattle.std.proofs.Common.{◌≡◌, take}
use Rattle.kernel_text.specs.Grammar.{number_behind}
use Rattle.kernel_text.proofs.blocks.number_behind.Given as goal

abbrev pub invariant-loop-param : goal.invariant-loop-param
invariant-loop-param l = l.number ≡ number_behind l.names (take l.param-index l.params)
