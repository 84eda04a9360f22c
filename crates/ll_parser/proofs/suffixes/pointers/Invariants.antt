use Rattle.ll_parser.proofs.EndFacts.{ReadSoFar}
use Rattle.ll_parser.proofs.suffixes.pointers.Given as goal

abbrev pub invariant-loop-spaces : goal.invariant-loop-spaces
invariant-loop-spaces l = ReadSoFar l.tokens l.spaces l.left

abbrev pub decreases-loop-spaces : goal.decreases-loop-spaces
decreases-loop-spaces l = l.left
