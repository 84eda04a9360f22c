use Rattle.std.proofs.Common.{◌≡◌, ◌++◌, length}
use Rattle.spv_names.specs.Uses.{case_ids}
use Rattle.spv_build.proofs.insts.add_case_ids.Given as goal

abbrev pub invariant-loop-id : goal.invariant-loop-id
invariant-loop-id l = l.ids.items ++ case_ids l.wide l.rest ≡ l.initial.ids.items ++ case_ids l.wide l.words

abbrev pub decreases-loop-id : goal.decreases-loop-id
decreases-loop-id l = length l.rest
