use Rattle.std.proofs.Common.{◌≡◌, ◌++◌, drop}
use Rattle.spv_build.specs.Insts.{ids_in}
use Rattle.spv_build.proofs.insts.ids_in.Given as goal

abbrev pub invariant-loop-kind : goal.invariant-loop-kind
invariant-loop-kind l = l.ids.items ++ ids_in l.wide (drop l.kind-index l.kinds) l.rest ≡ ids_in l.wide l.kinds l.words
