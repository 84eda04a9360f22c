use Rattle.std.proofs.Common.{◌≡◌, ◌++◌, drop}
use Rattle.spv_build.specs.Insts.{words_in}
use Rattle.spv_build.proofs.insts.words_in.Given as goal

abbrev pub invariant-loop-kind : goal.invariant-loop-kind
invariant-loop-kind l = l.literals.items ++ words_in l.wide (drop l.kind-index l.kinds) l.rest ≡ words_in l.wide l.kinds l.words
