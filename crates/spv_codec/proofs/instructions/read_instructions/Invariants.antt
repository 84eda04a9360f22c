use Rattle.std.proofs.Common.{length, nat_eq}
use Rattle.std.specs.HashMap.{get}
use Rattle.spv_codec.proofs.InstLemmas.{Progress}
use Rattle.spv_codec.proofs.instructions.read_instructions.Given as goal

abbrev pub invariant-loop-first : goal.invariant-loop-first
invariant-loop-first l = Progress l.words (get nat_eq l.ids.kinds) l.insts l.rest l.place

abbrev pub decreases-loop-first : goal.decreases-loop-first
decreases-loop-first l = length l.rest
