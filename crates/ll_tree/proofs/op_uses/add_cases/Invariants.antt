use Rattle.std.proofs.Common.{◌≡◌, ◌++◌, take}
use Rattle.ll_tree.specs.Ops.{bare_cases}
use Rattle.ll_tree.specs.Values.{names_in}
use Rattle.ll_tree.proofs.op_uses.add_cases.Given as goal

abbrev pub invariant-loop-case : goal.invariant-loop-case
invariant-loop-case l = l.names.items ≡ l.initial.names.items ++ names_in (bare_cases (take l.case-index l.cases))
