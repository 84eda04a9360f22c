use Rattle.std.proofs.Common.{◌≡◌, ◌++◌, length}
use Rattle.spv_build.specs.Insts.{case_numbers}
use Rattle.spv_build.proofs.insts.add_case_numbers.Given as goal

abbrev pub invariant-loop-number : goal.invariant-loop-number
invariant-loop-number l = l.numbers.items ++ case_numbers l.wide l.rest ≡ l.initial.numbers.items ++ case_numbers l.wide l.words

abbrev pub decreases-loop-number : goal.decreases-loop-number
decreases-loop-number l = length l.rest
