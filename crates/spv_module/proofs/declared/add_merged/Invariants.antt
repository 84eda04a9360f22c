use Rattle.std.proofs.Common.{◌≡◌, ◌+◌, ◌++◌, length, map, reverse}
use Rattle.spv_module.specs.Sections.{inst_of, merged}
use Rattle.spv_module.proofs.declared.add_merged.Given as goal

abbrev pub invariant-loop-next : goal.invariant-loop-next
invariant-loop-next l = l.insts.items ++ map inst_of (merged (reverse l.left.items) (reverse l.right.items)) ≡ l.initial.insts.items ++ map inst_of (merged l.fn.left.items l.fn.right.items)

abbrev pub decreases-loop-next : goal.decreases-loop-next
decreases-loop-next l = length l.left.items + length l.right.items
