use Rattle.std.proofs.Common.{◌≡◌, ◌-◌, ◌≤◌, length, vec_len}
use Rattle.graph_walk.proofs.components.turned.Given as goal

abbrev pub invariant-loop-alloc : goal.invariant-loop-alloc
invariant-loop-alloc l = vec_len l.sources ≤ length l.rows

abbrev pub decreases-loop-alloc : goal.decreases-loop-alloc
decreases-loop-alloc l = length l.rows - vec_len l.sources

abbrev pub invariant-loop-node : goal.invariant-loop-node
invariant-loop-node l = vec_len l.sources ≡ length l.rows

abbrev pub invariant-loop-target : goal.invariant-loop-target
invariant-loop-target l = vec_len l.sources ≡ length l.rows
