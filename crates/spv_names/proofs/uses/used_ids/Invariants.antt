use Rattle.std.proofs.Common.{◌≡◌, ◌++◌, drop}
use Rattle.spv_names.specs.Uses.{used_ids}
use Rattle.spv_names.proofs.uses.used_ids.Given as goal

abbrev pub invariant-loop-kind : goal.invariant-loop-kind
invariant-loop-kind l = l.ids.items ++ used_ids l.wide (drop l.kind-index l.kinds) l.rest ≡ used_ids l.wide l.kinds l.words
