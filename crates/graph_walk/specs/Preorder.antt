-- The depth-first preorder of a graph whose nodes are numbers. Its rows list the targets of each node, node 0 first.
use Rattle.std.specs.Prelude.{ℕ, zero, suc, ◌<◌, ◌==◌, Bool, if◌then◌else◌, List, [], ◌∷◌, ◌++◌, length, fold, All, slice_index_or}
use Rattle.std.specs.List.{list_any}

-- whether a node is among those seen so far
unfoldable pub is_seen : List ℕ → ℕ → Bool
is_seen seen node = list_any (λ x. x == node) seen

-- the targets of a node, in order
abbrev pub targets_of : List (List ℕ) → ℕ → List ℕ
targets_of rows node = slice_index_or rows node []

-- Nothing but `seen` where the node is in it. Else `seen`, the node, and then what its targets add in
-- their order, each to the result so far. At most `fuel` targets deep.
unfoldable pub preorder_within : List (List ℕ) → ℕ → ℕ → List ℕ → List ℕ
preorder_within rows zero node seen = seen
preorder_within rows (suc fuel) node seen =
    if is_seen seen node then seen
    else fold (λ so_far target. preorder_within rows fuel target so_far) (seen ++ node ∷ []) (targets_of rows node)

-- No path through nodes that aren't seen is longer than there are nodes, so the depth has no effect.
unfoldable pub preorder : List (List ℕ) → ℕ → List ℕ → List ℕ
preorder rows node seen = preorder_within rows (length rows) node seen

-- each target is a node
abbrev pub IsGraph : List (List ℕ) → Type 0
IsGraph rows = All (λ row. All (λ target. target < length rows) row) rows

-- what `preorder` adds, with no word on depth
abbrev pub preorder_step : List (List ℕ) → ℕ → List ℕ → List ℕ
preorder_step rows node seen =
    if is_seen seen node then seen
    else fold (λ so_far target. preorder rows target so_far) (seen ++ node ∷ []) (targets_of rows node)

-- whether a node can be reached from another one, or is it
abbrev pub reaches : List (List ℕ) → ℕ → ℕ → Bool
reaches rows start node = is_seen (preorder rows start []) node
