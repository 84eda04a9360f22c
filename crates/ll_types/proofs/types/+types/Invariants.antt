use Rattle.std.proofs.Common.{◌+◌, ◌*◌, length}
use Rattle.ll_types.proofs.MembersRead.{MembersSoFar}
use Rattle.ll_types.proofs.types.+types.Given as goal

abbrev pub decreases-base_type : goal.decreases-base_type
decreases-base_type l = 8 * length l.tokens.now

abbrev pub decreases-whole_type : goal.decreases-whole_type
decreases-whole_type l = 8 * length l.tokens.now + 1

abbrev pub decreases-counted_part : goal.decreases-counted_part
decreases-counted_part l = 8 * length l.tokens.now + 2

abbrev pub decreases-next_member : goal.decreases-next_member
decreases-next_member l = 8 * length l.tokens.now + 2

abbrev pub decreases-some_members : goal.decreases-some_members
decreases-some_members l = 8 * length l.tokens.now + 3

abbrev pub decreases-members : goal.decreases-members
decreases-members l = 8 * length l.tokens.now + 4

abbrev pub invariant-some_members-loop-members : goal.invariant-some_members-loop-members
invariant-some_members-loop-members l = MembersSoFar l.fn.names l.names l.tokens l.members l.left

abbrev pub decreases-some_members-loop-members : goal.decreases-some_members-loop-members
decreases-some_members-loop-members l = l.left
