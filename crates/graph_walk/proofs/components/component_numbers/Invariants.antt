use Rattle.std.proofs.Common.{◌≡◌, length, vec_len}
use Rattle.graph_walk.proofs.components.component_numbers.Given as goal

abbrev pub invariant-loop-number : goal.invariant-loop-number
invariant-loop-number l = vec_len l.numbers ≡ length l.sources
