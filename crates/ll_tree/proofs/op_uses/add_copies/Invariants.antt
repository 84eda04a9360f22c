use Rattle.std.proofs.Common.{◌≡◌, ◌++◌, replicate}
use Rattle.ll_tree.proofs.op_uses.add_copies.Given as goal

abbrev pub invariant-loop-i : goal.invariant-loop-i
invariant-loop-i l = l.parents.items ≡ l.initial.parents.items ++ replicate l._i l.block
