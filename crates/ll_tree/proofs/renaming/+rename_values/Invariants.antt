use Rattle.std.proofs.Common.{◌≡◌, nat_eq, map, take, ◌+◌, ◌*◌}
use Rattle.inst_walk.specs.Renaming.{renamed_name}
use Rattle.ll_tree.specs.Values.{typed_renamed}
use Rattle.ll_tree.proofs.renaming.+rename_values.Given as goal

abbrev pub invariant-rename_all-loop-i : goal.invariant-rename_all-loop-i
invariant-rename_all-loop-i l =
    goal.unvisited-rename_all-loop-i l × (take l.i l.parts ≡ map (typed_renamed (renamed_name nat_eq l.names)) (take l.i l.initial.parts))

abbrev pub decreases-renamed_value : goal.decreases-renamed_value
decreases-renamed_value l = 6 * goal.size-renamed_value l + 0

abbrev pub decreases-rename_value : goal.decreases-rename_value
decreases-rename_value l = 6 * goal.size-rename_value l + 1

abbrev pub decreases-rename_typed : goal.decreases-rename_typed
decreases-rename_typed l = 6 * goal.size-rename_typed l + 2

abbrev pub decreases-rename_all : goal.decreases-rename_all
decreases-rename_all l = 6 * goal.size-rename_all l + 3

abbrev pub decreases-renamed_operand : goal.decreases-renamed_operand
decreases-renamed_operand l = 6 * goal.size-renamed_operand l + 3

abbrev pub decreases-renamed_parts : goal.decreases-renamed_parts
decreases-renamed_parts l = 6 * goal.size-renamed_parts l + 5

abbrev pub decreases-rename_parts : goal.decreases-rename_parts
decreases-rename_parts l = 6 * goal.size-rename_parts l + 4
