use Rattle.std.proofs.Common.{◌≡◌, ◌≤◌, map, drop}
use Rattle.kernel_tree.specs.Numbered.{number_defined}
use Rattle.kernel_tree.specs.Covered.{in_sequence}
use Rattle.ll_canon.proofs.sequence.is_in_sequence.Given as goal

abbrev pub invariant-loop-definition : goal.invariant-loop-definition
invariant-loop-definition l = record {
  counted : l.next ≤ l.definition-index;
  left : in_sequence l.names 0 (map number_defined l.defined) ≡ in_sequence l.names l.next (map number_defined (drop l.definition-index l.defined));
}
