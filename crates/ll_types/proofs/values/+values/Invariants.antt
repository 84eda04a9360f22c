use Rattle.std.proofs.Common.{◌+◌, ◌*◌, length}
use Rattle.ll_types.proofs.PartsRead.{PartsSoFar}
use Rattle.ll_types.proofs.values.+values.Given as goal

abbrev pub decreases-typed_value : goal.decreases-typed_value
decreases-typed_value l = 8 * length l.tokens.now

abbrev pub decreases-whole_value : goal.decreases-whole_value
decreases-whole_value l = 8 * length l.tokens.now

abbrev pub decreases-more_parts : goal.decreases-more_parts
decreases-more_parts l = 8 * length l.tokens.now + 1

abbrev pub decreases-some_parts : goal.decreases-some_parts
decreases-some_parts l = 8 * length l.tokens.now + 2

abbrev pub decreases-operands_behind : goal.decreases-operands_behind
decreases-operands_behind l = 8 * length l.tokens.now + 2

abbrev pub decreases-parts_before : goal.decreases-parts_before
decreases-parts_before l = 8 * length l.tokens.now + 3

abbrev pub decreases-angle_value : goal.decreases-angle_value
decreases-angle_value l = 8 * length l.tokens.now + 4

abbrev pub decreases-path_behind : goal.decreases-path_behind
decreases-path_behind l = 8 * length l.tokens.now + 4

abbrev pub decreases-conversion_behind : goal.decreases-conversion_behind
decreases-conversion_behind l = 8 * length l.tokens.now + 4

abbrev pub invariant-more_parts-loop-inside : goal.invariant-more_parts-loop-inside
invariant-more_parts-loop-inside l = PartsSoFar l.fn.names l.names l.fn.parts l.tokens l.parts l.left

abbrev pub decreases-more_parts-loop-inside : goal.decreases-more_parts-loop-inside
decreases-more_parts-loop-inside l = l.left
