use Rattle.std.proofs.Common.{◌≡◌, map, drop}
use Rattle.kernel_tree.specs.Numbered.{number_defined}
use Rattle.kernel_tree.specs.Covered.{all_first}
use Rattle.ll_canon.proofs.distinct.are_distinct.Given as goal

abbrev pub invariant-loop-at : goal.invariant-loop-at
invariant-loop-at l = all_first l.places 0 (map number_defined l.defined) ≡ all_first l.places l.at (map number_defined (drop l.at l.defined))
