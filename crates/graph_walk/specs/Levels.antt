-- Numbers for the nodes that tell of most edges that they lie on no cycle.
use Rattle.std.specs.Prelude.{ℕ, ◌<◌, ◌≤◌, List, length, All, slice_index_or}
use Rattle.graph_walk.specs.Preorder.{targets_of}

-- a node's level, 0 where the list has none
abbrev pub level_of : List ℕ → ℕ → ℕ
level_of levels node = slice_index_or levels node 0

-- No edge leads to a lower level. So an edge to a higher one lies on no cycle.
abbrev pub Rises : List (List ℕ) → List ℕ → Type 0
Rises rows levels =
    (node : ℕ) → node < length rows → All (λ target. level_of levels node ≤ level_of levels target) (targets_of rows node)
