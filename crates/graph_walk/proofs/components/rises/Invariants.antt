use Rattle.std.proofs.Common.{ℕ, ◌<◌, ◌≤◌, All}
use Rattle.graph_walk.specs.Levels.{level_of}
use Rattle.graph_walk.specs.Preorder.{targets_of}
use Rattle.graph_walk.proofs.components.rises.Given as goal

abbrev pub invariant-loop-node : goal.invariant-loop-node
invariant-loop-node l = (k : ℕ) → k < l.node → All (λ target. level_of l.levels k ≤ level_of l.levels target) (targets_of l.rows k)
