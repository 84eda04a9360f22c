use Rattle.std.proofs.Common.{◌≡◌, map, take}
use Rattle.kernel_tree.specs.Numbered.{number_defined}
use Rattle.ll_canon.proofs.definitions.numbers.Given as goal

abbrev pub invariant-loop-definition : goal.invariant-loop-definition
invariant-loop-definition l = l.numbers.items ≡ map number_defined (take l.definition-index l.defined)
